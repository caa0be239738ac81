-- The refusals in words.
use Rattle.std.specs.Prelude.{ℕ, List, codes}
use Rattle.refusal.specs.declared.Refusal.{Refusal}
use Rattle.refusal.specs.declared.Refusal.TheVariants.{WrongLength, PowerOff, OutOfRange, InvalidTrailer, UnfitKey, WrongStage, PermitOut, SectorsLeft, NothingLeft}

abbrev pub text : Refusal → List ℕ
text WrongLength = codes "a buffer, unit, key or label has the wrong length"
text PowerOff = codes "the power is off"
text OutOfRange = codes "the sector number or the reach is out of range"
text InvalidTrailer = codes "the trailer is not valid"
text UnfitKey = codes "the key halves are equal, or the loaded keys do not fit"
text WrongStage = codes "the permit's stage is not the trailer's"
text PermitOut = codes "a permit is out"
text SectorsLeft = codes "sectors are left to re-key"
text NothingLeft = codes "no sector is left to re-key"
