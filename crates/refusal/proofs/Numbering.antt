-- A refusal is known by its number.
use Rattle.std.proofs.Common.{◌≡◌, ℕ, cond, eqb, sym, refl, ap, ◌∙◌}
use Rattle.refusal.specs.declared.Refusal.{Refusal}
use Rattle.refusal.specs.declared.Refusal.TheVariants.{WrongLength, PowerOff, OutOfRange, InvalidTrailer, UnfitKey, WrongStage, PermitOut, SectorsLeft, NothingLeft}
use Rattle.refusal.specs.Numbers.{numbered, NumbersDiffer}

-- the refusal of a number, so that a refusal is found again from its number
abbrev named : ℕ → Refusal
named n = cond (eqb n 1) WrongLength (cond (eqb n 2) PowerOff (cond (eqb n 3) OutOfRange (cond (eqb n 4) InvalidTrailer (cond (eqb n 5) UnfitKey (cond (eqb n 6) WrongStage (cond (eqb n 7) PermitOut (cond (eqb n 8) SectorsLeft NothingLeft)))))))

found : (e : Refusal) → named (numbered e) ≡ e
found WrongLength = refl
found PowerOff = refl
found OutOfRange = refl
found InvalidTrailer = refl
found UnfitKey = refl
found WrongStage = refl
found PermitOut = refl
found SectorsLeft = refl
found NothingLeft = refl

pub numbers_differ : NumbersDiffer
numbers_differ e f same = sym (found e) ∙ ap named same ∙ found f
