-- What the words of a line say, and what is wrong with a line that cannot be read.
use Rattle.std.specs.Prelude.{◌≡◌, ℕ, ◌+◌, ◌<◌, ◌≤◌, List, length, Some, None, vec_items, Option, Vec, ◌≢◌}
use Rattle.std.specs.Borrow.{Bor}
use Rattle.std.specs.declared.alloc.Global.{Global}
use Rattle.units.specs.declared.fault.Expected.{Expected}
use Rattle.units.specs.declared.fault.Expected.TheVariants.{Command as noCommand, Cipher, Key, Number, Input, Result, End, Memory}
use Rattle.units.specs.declared.read.Command.{Command}
use Rattle.units.specs.declared.read.Command.TheVariants.{Block as BlockOf, Unit as UnitsOf}
use Rattle.units.specs.declared.read.Line.{Line}
use Rattle.units.specs.declared.task.CipherName.{CipherName}
use Rattle.units.specs.declared.task.Direction.{Direction}
use Rattle.units.specs.declared.task.Extent.{Extent}
use Rattle.units.specs.declared.task.Extent.TheVariants.{Block, Unit as UnitOf}
use Rattle.units.specs.declared.task.Task.{Task}
use Rattle.words.specs.Words.{word_at, InDecimal}
use Rattle.units.specs.Words.{command_word, cipher_word, direction_of, input_place, InHex, Missed}

abbrev pub Words : Type 0
Words = List (Bor (List ℕ))

-- the command of a task
abbrev pub command_of : Extent → Direction → Command
command_of Block d = BlockOf d
command_of (UnitOf n) d = UnitsOf d

-- a unit has its number at place 3
abbrev pub Numbered : Words → Extent → Type 0
Numbered ws Block = Unit {0}
Numbered ws (UnitOf n) = InDecimal (word_at ws 3) n

-- the extent is the command's, with the number of the line
abbrev pub Extends : Command → Words → Extent → Type 0
Extends c ws x = (command_of x (direction_of c) ≡ c) × Numbered ws x

-- the command asks for a number, and the line has none
abbrev pub Unnumbered : Command → Words → Expected → Type 0
Unnumbered (BlockOf d) ws e = ⊥
Unnumbered (UnitsOf d) ws e = Missed Number (InDecimal (word_at ws 3)) e

-- what is expected stands at a place, the last, or the line ends before it
abbrev pub Expects : Words → ℕ → Option (Vec ℕ Global) → Type 0
Expects ws at None = length ws ≤ at
Expects ws at (Some v) = InHex (word_at ws at) (vec_items v) × (length ws ≡ at + 1)

abbrev pub Unhexed : Words → ℕ → Type 0
Unhexed ws at = (bytes : List ℕ) → InHex (word_at ws at) bytes → ⊥

abbrev pub Unexpected : Words → ℕ → Expected → Type 0
Unexpected ws at noCommand = ⊥
Unexpected ws at Cipher = ⊥
Unexpected ws at Key = ⊥
Unexpected ws at Number = ⊥
Unexpected ws at Input = ⊥
Unexpected ws at Result = (at < length ws) × Unhexed ws at
Unexpected ws at End = at + 1 < length ws
Unexpected ws at Memory = Unit {0}

abbrev pub task_command : Task → Command
task_command t = command_of t.extent t.direction

-- the words say this task, and expect this of it
pub record Says (ws : Words) (l : Line) : Type 0 where
  pub command : word_at ws 0 ≡ command_word (task_command l.task)
  pub cipher : word_at ws 1 ≡ cipher_word l.task.cipher
  pub key : InHex (word_at ws 2) (vec_items l.task.key)
  pub number : Numbered ws l.task.extent
  pub input : InHex (word_at ws (input_place (task_command l.task))) (vec_items l.task.input)
  pub expected : Expects ws (input_place (task_command l.task) + 1) l.expected

-- this is wrong with the words; memory may run out at any
abbrev pub Wrong : Words → Expected → Type 0
Wrong ws noCommand = (c : Command) → word_at ws 0 ≢ command_word c
Wrong ws Cipher = (c : CipherName) → word_at ws 1 ≢ cipher_word c
Wrong ws Key = Unhexed ws 2
Wrong ws Number = (d : Direction) × (word_at ws 0 ≡ command_word (UnitsOf d)) × ((n : ℕ) → InDecimal (word_at ws 3) n → ⊥)
Wrong ws Input = (c : Command) × (word_at ws 0 ≡ command_word c) × Unhexed ws (input_place c)
Wrong ws Result = (c : Command) × (word_at ws 0 ≡ command_word c) × Unexpected ws (input_place c + 1) Result
Wrong ws End = (c : Command) × (word_at ws 0 ≡ command_word c) × Unexpected ws (input_place c + 1) End
Wrong ws Memory = Unit {0}
