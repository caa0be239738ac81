-- What reading the trailer afresh does.
use Rattle.std.specs.Prelude.{◌≡◌, ℕ, ◌+◌, ◌<◌, true, false, List, [], ◌∷◌, Some, None, Ok, Err, Option, Result}
use Rattle.refusal.specs.declared.Refusal.{Refusal}
use Rattle.card.specs.Meaning.{Meaning, count, at, off}
use Rattle.card.specs.Calls.{Refused}
use Rattle.trailer.specs.Trailers.{fields, decode, valid}
use Rattle.refusal.specs.Demands.{Demand}
use Rattle.refusal.specs.Numbers.{numbered}
use Rattle.law.specs.Suites.{Suite}
use Rattle.law.specs.States as states
use Rattle.law.specs.States.{State, last, fit}
use Rattle.law.specs.Calls.{TurnedDown, number_demands}
use Rattle.volume.specs.declared.state.Seen.{Seen}

-- what is seen of a store: none where the trailer is not valid
abbrev pub Sees : ℕ → Meaning → Option Seen → Type 0
Sees number m None = valid number (last m) (at m (last m)) ≡ false
Sees number m (Some s) =
    (valid number (last m) (at m (last m)) ≡ true) × (decode (at m (last m)) ≡ fields s.trailer) × (s.last + 1 ≡ count m)

abbrev pub Looked : ℕ → Meaning → Result (Option Seen) Refusal → Meaning → Type 0
Looked number m (Ok o) w = (m.power ≡ true) × (w ≡ m) × Sees number m o
Looked number m (Err e) w = Refused e ⊥ (w ≡ off m) ⊥

-- the tests that four calls begin with
abbrev pub fit_demands : Suite → State → List Demand
fit_demands c v = (4, states.valid c v ≡ true) ∷ (5, fit c v ≡ true) ∷ []

-- a valid trailer that the loaded keys fit, or the refusal of the first of these tests that is not met
abbrev pub Fitted : Suite → State → Result Seen Refusal → State → Type 0
Fitted c v (Ok s) w = (v.store.power ≡ true) × (w ≡ v) × Sees c.number v.store (Some s) × (fit c v ≡ true)
Fitted c v (Err e) w = TurnedDown [] (fit_demands c v) v (numbered e) w

-- the same of a data sector's number, which is out of range where there is no such trailer
abbrev pub Found : Suite → State → ℕ → Result Seen Refusal → State → Type 0
Found c v n (Ok s) w = (v.store.power ≡ true) × (w ≡ v) × Sees c.number v.store (Some s) × (fit c v ≡ true) × (n < s.trailer.reach)
Found c v n (Err e) w = TurnedDown [] (number_demands c v n) v (numbered e) w
