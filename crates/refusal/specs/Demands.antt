-- The tests of a call, in order: each is a demand that the call makes, with the number of the refusal that follows
-- where the demand is not met.
use Rattle.std.specs.Prelude.{◌≡◌, ℕ, ◌⊎◌, List, [], ◌∷◌}

abbrev pub Demand : Type 1
Demand = ℕ × Type 0

-- every demand is met
abbrev pub AllMet : List Demand → Type 0
AllMet [] = Unit {0}
AllMet (d ∷ ds) = d.1 × AllMet ds

-- n is the number of the first demand that is not met
abbrev pub FirstUnmet : List Demand → ℕ → Type 0
FirstUnmet [] n = ⊥
FirstUnmet (d ∷ ds) n = ((d.1 → ⊥) × (n ≡ d.0)) ⊎ (d.1 × FirstUnmet ds n)
