-- What XTS makes of a task's key and input.
use Rattle.std.proofs.Common.{◌≡◌, ℕ, List, Result, subst}
use Rattle.refusal.specs.declared.Refusal.{Refusal}
use Rattle.cipher.specs.Maps.{Maps}
use Rattle.xts.specs.Calls.{call_demands, Makes}
use Rattle.units.specs.declared.task.Direction.{Direction}
use Rattle.units.specs.Runs.{unit_map}

-- a unit that is lent is the unit of the slices lent
pub lent : (forward back : Maps) (d : Direction) (number : ℕ) (key lent_key input lent_input output after : List ℕ) (r : Result (Unit {0}) Refusal)
    → lent_key ≡ key → lent_input ≡ input → Makes (call_demands lent_key lent_input output) (unit_map forward back d lent_key number lent_input) output r after
    → Makes (call_demands key input output) (unit_map forward back d key number input) output r after
lent forward back d number key lent_key input lent_input output after r e f m =
    subst (λ (k : List ℕ). Makes (call_demands k input output) (unit_map forward back d k number input) output r after) e
    (subst (λ (i : List ℕ). Makes (call_demands lent_key i output) (unit_map forward back d lent_key number i) output r after) f m)
