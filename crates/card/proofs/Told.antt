-- A call that passed the length test answers "power" exactly where the power is off at its end.
use Rattle.std.proofs.Common.{◌≡◌, ℕ, true, false, List, length, Ok, Err, Result, refl, ap, ◌∙◌, ⊎_elim, arith}
use Rattle.std.proofs.lemmas.Bool.{both_ways}
use Rattle.refusal.specs.declared.Refusal.{Refusal}
use Rattle.refusal.specs.declared.Refusal.TheVariants.{WrongLength, PowerOff, OutOfRange, InvalidTrailer, UnfitKey, WrongStage, PermitOut, SectorsLeft, NothingLeft}
use Rattle.card.specs.Meaning.{Meaning}
use Rattle.card.specs.Calls.{Refused, Counted, PoweredUp, ReadAt, WroteAt, PutOne, PutTwo}
use Rattle.card.specs.Theorems.{PowerIsTold, PowerAlwaysTold}

-- a done call leaves the power on
done : {A : Type 0} (a : A) (n : Meaning) → n.power ≡ true → PowerIsTold (Ok a) n
done a n on = (λ none. absurd none, λ f. absurd (both_ways n.power f on))

-- a refused one: the length was right, "power" leaves it off, and the number was tested with the power on
refused : (A : Type 0) {P Q R : Type 0} (e : Refusal) (n : Meaning) → (P → ⊥) → (Q → n.power ≡ false) → (R → n.power ≡ true) → Refused e P Q R → PowerIsTold {A = A} (Err e) n
refused A WrongLength n p q r w = absurd (p w)
refused A PowerOff n p q r w = (λ _. q w, λ _. refl)
refused A OutOfRange n p q r w = (λ e. (let z : ⊥ = omega arith in absurd z), λ f. absurd (both_ways n.power f (r w)))
refused A InvalidTrailer n p q r w = absurd w
refused A UnfitKey n p q r w = absurd w
refused A WrongStage n p q r w = absurd w
refused A PermitOut n p q r w = absurd w
refused A SectorsLeft n p q r w = absurd w
refused A NothingLeft n p q r w = absurd w

power : {m n : Meaning} → n ≡ m → n.power ≡ m.power
power e = ap (λ (z : Meaning). z.power) e

counts : (m n : Meaning) (r : Result ℕ Refusal) → Counted m n r → PowerIsTold r n
counts m n (Ok k) w = done k n (power w.1 ∙ w.0)
counts m n (Err e) w = refused ℕ e n (λ z. z) power (λ z. absurd z) w

powers_up : (m n : Meaning) (r : Result (Unit {0}) Refusal) → PoweredUp m n r → PowerIsTold r n
powers_up m n (Ok k) w = done k n (power w)
powers_up m n (Err e) w = refused (Unit {0}) e n (λ z. z) power (λ z. absurd z) w

reads : (m n : Meaning) (k : ℕ) (b c : List ℕ) (r : Result (Unit {0}) Refusal) → length b ≡ 520 → ReadAt m n k b c r → PowerIsTold r n
reads m n k b c (Ok a) l w = done a n (power w.3 ∙ w.1)
reads m n k b c (Err e) l w = refused (Unit {0}) e n (λ p. p.0 l) (λ q. power q.1) (λ r. power r.3 ∙ r.1) w

writes : (m n : Meaning) (k : ℕ) (b : List ℕ) (r : Result (Unit {0}) Refusal) → length b ≡ 520 → WroteAt m n k b r → PowerIsTold r n
writes m n k b (Ok a) l w = done a n (power w.3 ∙ w.1)
writes m n k b (Err e) l w = refused (Unit {0}) e n (λ p. p.0 l) (λ q. ⊎_elim power (λ t. power t.2.1.1) q.1) (λ r. power r.3 ∙ r.1) w

puts_one : (m n : Meaning) (k : ℕ) (b : List ℕ) (r : Result (Unit {0}) Refusal) → length b ≡ 520 → PutOne m n k b r → PowerIsTold r n
puts_one m n k b (Ok a) l w = done a n (power w.3 ∙ w.1)
puts_one m n k b (Err e) l w = refused (Unit {0}) e n (λ p. p.0 l) (λ q. ⊎_elim power (λ t. power t.2) q.1) (λ r. power r.3 ∙ r.1) w

puts_two : (m n : Meaning) (j : ℕ) (x : List ℕ) (k : ℕ) (y : List ℕ) (r : Result (Unit {0}) Refusal) → length x ≡ 520 → length y ≡ 520 → PutTwo m n j x k y r → PowerIsTold r n
puts_two m n j x k y (Ok a) lx ly w = done a n (power w.6 ∙ w.2)
puts_two m n j x k y (Err e) lx ly w =
    refused (Unit {0}) e n (λ p. ⊎_elim (λ f. f lx) (λ f. f ly) p.0) (λ q. ⊎_elim power (λ t. power t.4) q.2) (λ r. power r.4 ∙ r.2) w

pub power_always_told : PowerAlwaysTold
power_always_told = record { counts = counts; powers_up = powers_up; reads = reads; writes = writes; puts_one = puts_one; puts_two = puts_two }
