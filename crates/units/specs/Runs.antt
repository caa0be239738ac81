-- What comes of a task.
use Rattle.std.specs.Prelude.{◌≡◌, ℕ, List, [], ◌∷◌, length, vec_items, Ok, Err, Result, Vec}
use Rattle.std.specs.declared.alloc.Global.{Global}
use Rattle.cipher.specs.Maps.{Maps}
use Rattle.refusal.specs.declared.Refusal.{Refusal}
use Rattle.refusal.specs.Demands.{Demand, AllMet, FirstUnmet}
use Rattle.refusal.specs.Numbers.{numbered}
use Rattle.xts.specs.Calls.{call_demands, Makes}
use Rattle.xts.specs.Xts.{encipher, decipher}
use Rattle.aes.specs.Aes.{aes, aes_back}
use Rattle.speck.specs.Speck.{speck, speck_back}
use Rattle.units.specs.declared.task.CipherName.{CipherName}
use Rattle.units.specs.declared.task.CipherName.TheVariants.{Aes256, Speck}
use Rattle.units.specs.declared.task.Direction.{Direction}
use Rattle.units.specs.declared.task.Direction.TheVariants.{Forward, Back}
use Rattle.units.specs.declared.task.Extent.{Extent}
use Rattle.units.specs.declared.task.Extent.TheVariants.{Block, Unit as UnitOf}
use Rattle.units.specs.declared.task.Task.{Task}

-- what comes of a task: its bytes, or the refusal
abbrev pub Outcome : Type 0
Outcome = Result (Vec ℕ Global) Refusal

abbrev pub block_demands : List ℕ → List ℕ → List Demand
block_demands key input = (1, length key ≡ 32) ∷ (1, length input ≡ 16) ∷ []

-- the bytes, where all that is demanded is met, or else the refusal of the first demand that is not
abbrev pub Answered : List Demand → List ℕ → Outcome → Type 0
Answered demands bytes (Ok v) = AllMet demands × (vec_items v ≡ bytes)
Answered demands bytes (Err e) = FirstUnmet demands (numbered e)

-- what is demanded of a block, or of a unit with an output of its own length
abbrev pub demands_of : Extent → List ℕ → List ℕ → List Demand
demands_of Block key input = block_demands key input
demands_of (UnitOf number) key input = call_demands key input input

module _ (forward back : Maps) where
  abbrev pub block_map : Direction → Maps
  block_map Forward = forward
  block_map Back = back

  abbrev pub unit_map : Direction → List ℕ → ℕ → List ℕ → List ℕ
  unit_map Forward = encipher forward
  unit_map Back = decipher forward back

  -- the bytes of a block, or of a unit, under the two maps of a cipher
  abbrev pub bytes_of : Extent → Direction → List ℕ → List ℕ → List ℕ
  bytes_of Block direction key input = block_map direction key input
  bytes_of (UnitOf number) direction key input = unit_map direction key number input

abbrev pub forward_of : CipherName → Maps
forward_of Aes256 = aes
forward_of Speck = speck

abbrev pub back_of : CipherName → Maps
back_of Aes256 = aes_back
back_of Speck = speck_back

-- a task under the two maps of a cipher, in a buffer that holds its input, which a refusal leaves alone
abbrev pub Passed : Maps → Maps → Task → List ℕ → Result (Unit {0}) Refusal → List ℕ → Type 0
Passed forward back t =
    Makes (demands_of t.extent (vec_items t.key) (vec_items t.input)) (bytes_of forward back t.extent t.direction (vec_items t.key) (vec_items t.input))

-- what comes of a task
abbrev pub Came : Task → Outcome → Type 0
Came t =
    Answered (demands_of t.extent (vec_items t.key) (vec_items t.input))
    (bytes_of (forward_of t.cipher) (back_of t.cipher) t.extent t.direction (vec_items t.key) (vec_items t.input))
