-- What follows of the calls of a card or a whole store, whatever the card.
use Rattle.std.specs.Prelude.{◌≡◌, ℕ, false, List, length, Ok, Err, Result}
use Rattle.refusal.specs.declared.Refusal.{Refusal}
use Rattle.refusal.specs.Numbers.{numbered}
use Rattle.card.specs.Meaning.{Meaning}
use Rattle.card.specs.Calls.{Counted, PoweredUp, ReadAt, WroteAt, PutOne, PutTwo}

-- the reply is the refusal "power"
abbrev pub SaysPower : {A : Type 0} → Result A Refusal → Type 0
SaysPower (Ok a) = ⊥
SaysPower (Err e) = numbered e ≡ 2

-- the call answers "power" exactly where the power is off at its end
abbrev pub PowerIsTold : {A : Type 0} → Result A Refusal → Meaning → Type 0
PowerIsTold r n = (SaysPower r → n.power ≡ false) × (n.power ≡ false → SaysPower r)

-- Every call that passed the length test answers "power" exactly where the power is off at its end.
pub record PowerAlwaysTold : Type 0 where
  pub counts : (m n : Meaning) (r : Result ℕ Refusal) → Counted m n r → PowerIsTold r n
  pub powers_up : (m n : Meaning) (r : Result (Unit {0}) Refusal) → PoweredUp m n r → PowerIsTold r n
  pub reads : (m n : Meaning) (k : ℕ) (b c : List ℕ) (r : Result (Unit {0}) Refusal) → length b ≡ 520 → ReadAt m n k b c r → PowerIsTold r n
  pub writes : (m n : Meaning) (k : ℕ) (b : List ℕ) (r : Result (Unit {0}) Refusal) → length b ≡ 520 → WroteAt m n k b r → PowerIsTold r n
  pub puts_one : (m n : Meaning) (k : ℕ) (b : List ℕ) (r : Result (Unit {0}) Refusal) → length b ≡ 520 → PutOne m n k b r → PowerIsTold r n
  pub puts_two : (m n : Meaning) (j : ℕ) (x : List ℕ) (k : ℕ) (y : List ℕ) (r : Result (Unit {0}) Refusal) → length x ≡ 520 → length y ≡ 520 → PutTwo m n j x k y r → PowerIsTold r n
