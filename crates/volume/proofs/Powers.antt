-- A power-up of the store is one of the volume.
use Rattle.std.proofs.Common.{Ok, Err, refl, ap}
use Rattle.refusal.specs.declared.Refusal.TheVariants.{WrongLength, PowerOff, OutOfRange, InvalidTrailer, UnfitKey, WrongStage, PermitOut, SectorsLeft, NothingLeft}
use Rattle.card.specs.Meaning.{Meaning}
use Rattle.card.specs.Calls.{PoweredUp}
use Rattle.law.specs.Suites.{Suite}
use Rattle.law.specs.States.{State, storing}
use Rattle.law.specs.Calls.{Reply, PowersUp}

pub powered : (c : Suite) (v : State) (n : Meaning) (r : Reply) → PoweredUp v.store n r → PowersUp c v r (storing v n)
powered c v n (Ok u) p = ap (storing v) p
powered c v n (Err PowerOff) p = (refl, ap (storing v) p)
powered c v n (Err WrongLength) p = absurd p
powered c v n (Err OutOfRange) p = absurd p
powered c v n (Err InvalidTrailer) p = absurd p
powered c v n (Err UnfitKey) p = absurd p
powered c v n (Err WrongStage) p = absurd p
powered c v n (Err PermitOut) p = absurd p
powered c v n (Err SectorsLeft) p = absurd p
powered c v n (Err NothingLeft) p = absurd p
