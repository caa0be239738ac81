-- What a call answers, as the relations of the calls have it.
use Rattle.std.specs.Prelude.{◌≡◌, ℕ, List, [], ◌∷◌, length, replicate, Some, None, Ok, Err, Option, Result, ◌≢◌}
use Rattle.std.specs.Borrow.{Bor}
use Rattle.refusal.specs.declared.Refusal.{Refusal}
use Rattle.trailer.specs.declared.stage.Stage.{Stage}
use Rattle.law.specs.Calls.{Reply}
pub use Rattle.law.specs.Calls.{read_into, KeptIfRefused}
use Rattle.volume.specs.declared.permits.Permit.{Permit}
use Rattle.volume.specs.Permits.{stage_held}

-- the keys that a load is given
abbrev pub given_keys : List ℕ → Option (Bor (List ℕ)) → List (List ℕ)
given_keys a None = a ∷ []
given_keys a (Some b) = a ∷ b.now ∷ []

-- the stage of the permit that a claim hands out
abbrev pub stage_of : Result Permit Refusal → Result Stage Refusal
stage_of (Ok p) = Ok (stage_held p)
stage_of (Err e) = Err e

-- a begin or a finish that is refused gives its permit back
abbrev pub verdict : {P Q : Type 0} → Result P (Refusal × Q) → Reply
verdict (Ok p) = Ok tt
verdict (Err e) = Err e.0

-- a work buffer of the right length is left all zero, any other alone
abbrev pub Wiped : List ℕ → List ℕ → Type 0
Wiped before after = (length before ≡ 520 → after ≡ replicate 520 0) × ((length before ≢ 520) → after ≡ before)
