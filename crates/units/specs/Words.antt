-- What each word of a line may be.
use Rattle.std.specs.Prelude.{◌≡◌, ℕ, ◌<◌, ◌⊎◌, List, length, Ok, Err, Result, codes, ◌≢◌}
use Rattle.hex_text.specs.Texts.{Spells}
use Rattle.units.specs.declared.fault.Expected.{Expected}
use Rattle.units.specs.declared.fault.Expected.TheVariants.{Memory}
use Rattle.units.specs.declared.read.Command.{Command}
use Rattle.units.specs.declared.read.Command.TheVariants.{Block, Unit as UnitOf}
use Rattle.units.specs.declared.task.CipherName.{CipherName}
use Rattle.units.specs.declared.task.CipherName.TheVariants.{Aes256, Speck}
use Rattle.units.specs.declared.task.Direction.{Direction}
use Rattle.units.specs.declared.task.Direction.TheVariants.{Forward, Back}

abbrev pub command_word : Command → List ℕ
command_word (Block Forward) = codes "block"
command_word (Block Back) = codes "block-back"
command_word (UnitOf Forward) = codes "unit"
command_word (UnitOf Back) = codes "unit-back"

abbrev pub cipher_word : CipherName → List ℕ
cipher_word Aes256 = codes "aes256"
cipher_word Speck = codes "speck"

abbrev pub direction_of : Command → Direction
direction_of (Block d) = d
direction_of (UnitOf d) = d

-- the place of IN, which comes after NUMBER where there is one
abbrev pub input_place : Command → ℕ
input_place (Block d) = 3
input_place (UnitOf d) = 4

-- what the word names, or the error where it names nothing
abbrev pub Names : {X : Type 0} → (X → List ℕ) → Expected → List ℕ → Result X Expected → Type 0
Names name wanted word (Ok x) = word ≡ name x
Names name wanted word (Err e) = (e ≡ wanted) × ((x : _) → word ≢ name x)

-- a word that is these bytes in hex
abbrev pub InHex : List ℕ → List ℕ → Type 0
InHex word bytes = (0 < length word) × Spells word bytes

-- the error names what was wanted, which the word is not, or there was no memory
abbrev pub Missed : {X : Type 0} → Expected → (X → Type 0) → Expected → Type 0
Missed {X = X} wanted P e = (e ≡ Memory) ⊎ ((e ≡ wanted) × ((x : X) → P x → ⊥))
