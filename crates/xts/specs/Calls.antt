-- What the public calls answer.
use Rattle.std.specs.Prelude.{◌≡◌, ℕ, ◌≤◌, ◌≢◌, List, [], ◌∷◌, ◌++◌, length, take, drop, Ok, Err, Result}
use Rattle.refusal.specs.declared.Refusal.{Refusal}
use Rattle.refusal.specs.Numbers.{numbered}
use Rattle.refusal.specs.Demands.{Demand, AllMet, FirstUnmet}
use Rattle.xts.specs.declared.UnitKey.{UnitKey}

-- the 64 bytes that a prepared key was made from, where a half was made from the bytes `half`
abbrev pub key_bytes : {C : Type 0} → (C → List ℕ) → UnitKey C → List ℕ
key_bytes half k = half k.key1 ++ half k.key2

-- a key of the right length, house rule: whose halves differ
abbrev pub key_demands : List ℕ → List Demand
key_demands key = (1, length key ≡ 64) ∷ (5, take 32 key ≢ drop 32 key) ∷ []

-- a unit of the right length
abbrev pub unit_demands : List ℕ → List Demand
unit_demands unit = (1, (16 ≤ length unit) × (length unit ≤ 4096)) ∷ []

-- key, input and output of the right lengths, and then the house rule
abbrev pub call_demands : List ℕ → List ℕ → List ℕ → List Demand
call_demands key input output =
    (1, length key ≡ 64) ∷ (1, (16 ≤ length input) × (length input ≤ 4096)) ∷ (1, length output ≡ length input) ∷ (5, take 32 key ≢ drop 32 key) ∷ []

-- a call that leaves `made` in its buffer, or is refused and leaves the buffer alone
abbrev pub Makes : List Demand → List ℕ → List ℕ → Result (Unit {0}) Refusal → List ℕ → Type 0
Makes demands made before (Ok _) after = AllMet demands × (after ≡ made)
Makes demands made before (Err e) after = FirstUnmet demands (numbered e) × (after ≡ before)

-- a key that is taken, with a fact of what it became, or refused
abbrev pub Taken : {K : Type 0} → List ℕ → (K → List ℕ) → Result K Refusal → Type 0
Taken key bytes_of (Ok k) = AllMet (key_demands key) × (bytes_of k ≡ key)
Taken key bytes_of (Err e) = FirstUnmet (key_demands key) (numbered e)
