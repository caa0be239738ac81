-- The numbers of the refusals: fixed for good, since drives in the field answer them.
use Rattle.std.specs.Prelude.{◌≡◌, ℕ, Some, None, Option, ◌≢◌}
use Rattle.refusal.specs.declared.Refusal.{Refusal}
use Rattle.refusal.specs.declared.Refusal.TheVariants.{WrongLength, PowerOff, OutOfRange, InvalidTrailer, UnfitKey, WrongStage, PermitOut, SectorsLeft, NothingLeft}

abbrev pub numbered : Refusal → ℕ
numbered WrongLength = 1
numbered PowerOff = 2
numbered OutOfRange = 3
numbered InvalidTrailer = 4
numbered UnfitKey = 5
numbered WrongStage = 6
numbered PermitOut = 7
numbered SectorsLeft = 8
numbered NothingLeft = 9

-- r is the refusal with number n, or none where none has it
abbrev pub Named : ℕ → Option Refusal → Type 0
Named n (Some e) = numbered e ≡ n
Named n None = (e : Refusal) → numbered e ≢ n

-- no two refusals have one number
abbrev pub NumbersDiffer : Type 0
NumbersDiffer = (e f : Refusal) → numbered e ≡ numbered f → e ≡ f
