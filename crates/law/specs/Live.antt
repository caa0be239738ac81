-- The law speaks of something: a format gives a start, and from a start a change of the key can be carried through.
use Rattle.std.specs.Prelude.{◌≡◌, ℕ, ◌≤◌, true, false, ◌≢◌, List, [], ◌∷◌, length}
use Rattle.octets.specs.Little.{Bytes}
use Rattle.law.specs.Suites.{Suite, Proper, check}
use Rattle.law.specs.States.{State, Steady, last}
use Rattle.law.specs.Runs.{History, Run, Starts, rests, change}

-- all that a format asks, with the power on
pub record CanFormat (v : State) (reach : ℕ) (label : List ℕ) : Type 0 where
  pub steady : Steady v
  pub power : v.store.power ≡ true
  pub permit_in : v.out ≡ false
  pub key : 1 ≤ length v.keys
  pub some : 1 ≤ reach
  pub room : reach ≤ last v.store
  pub labelled : Bytes 16 label

-- a start with the power on, and two keys loaded that have different checks
pub record Ready (c : Suite) (reach : ℕ) (v : State) (k j : List ℕ) : Type 0 where
  pub proper : Proper c
  pub starts : Starts c reach v
  pub power : v.store.power ≡ true
  pub keys : v.keys ≡ k ∷ j ∷ []
  pub differ : check c k ≢ check c j

pub record StartsExist : Type 0 where
  -- with every cipher, on every volume that a format can be asked of, a format gives a start with the keys loaded before
  pub every :
      (c : Suite) (v : State) (reach : ℕ) (label : List ℕ) → CanFormat v reach label
      → (w : State) × Starts c reach w × (w.store.power ≡ true) × (w.keys ≡ v.keys)
  -- some proper cipher has such a start with two keys of different checks
  pub some : (c : Suite) × (reach : ℕ) × (v : State) × (k : List ℕ) × (j : List ℕ) × Ready c reach v k j

-- from every start with two such keys some run carries the change from the first to the second through
abbrev pub ChangeCanEnd : Type 0
ChangeCanEnd =
    (c : Suite) (reach : ℕ) (v : State) (k j : List ℕ) → Ready c reach v k j
    → (es : History) × Run c v es × (change c v es ≡ rests j)
