-- What is printed of an outcome, and how it is judged.
use Rattle.std.specs.Prelude.{◌≡◌, ℕ, ◌+◌, ◌-◌, ◌^◌, min, List, ◌++◌, Some, None, Ok, Err, vec_items, codes, decimal, Option, Vec}
use Rattle.std.specs.declared.alloc.Global.{Global}
use Rattle.refusal.specs.Numbers.{numbered}
use Rattle.hex_text.specs.Texts.{hex_text}
use Rattle.units.specs.declared.reply.Tally.{Tally}
use Rattle.units.specs.declared.reply.Verdict.{Verdict}
use Rattle.units.specs.declared.reply.Verdict.TheVariants.{Agrees, Differs}
use Rattle.units.specs.Runs.{Outcome}

-- the bytes in hex, or the refusal's number
abbrev pub outcome_text : Outcome → List ℕ
outcome_text (Ok v) = hex_text (vec_items v)
outcome_text (Err e) = codes "refused " ++ decimal (numbered e)

abbrev pub verdict_word : Verdict → List ℕ
verdict_word Agrees = codes "ok"
verdict_word Differs = codes "differs"

-- the line that is printed
abbrev pub reply_text : Outcome → Option Verdict → List ℕ
reply_text o None = outcome_text o
reply_text o (Some v) = outcome_text o ++ (codes " " ++ verdict_word v)

-- an outcome agrees when it is the bytes that were expected
abbrev pub Judged : List ℕ → Outcome → Verdict → Type 0
Judged expected (Ok v) Agrees = vec_items v ≡ expected
Judged expected (Ok v) Differs = vec_items v ≡ expected → ⊥
Judged expected (Err e) Agrees = ⊥
Judged expected (Err e) Differs = Unit {0}

-- there is a verdict where something was expected
abbrev pub Matched : Option (Vec ℕ Global) → Outcome → Option Verdict → Type 0
Matched None o None = Unit {0}
Matched None o (Some v) = ⊥
Matched (Some bytes) o None = ⊥
Matched (Some bytes) o (Some v) = Judged (vec_items bytes) o v

-- one more agreed or differed; the counts stop at the largest
abbrev pub one_more : ℕ → ℕ
one_more n = min (n + 1) (2 ^ 64 - 1)

abbrev pub Counted : Option Verdict → Tally → Tally → Type 0
Counted None a b = (b.agreed ≡ a.agreed) × (b.differed ≡ a.differed)
Counted (Some Agrees) a b = (b.agreed ≡ one_more a.agreed) × (b.differed ≡ a.differed)
Counted (Some Differs) a b = (b.agreed ≡ a.agreed) × (b.differed ≡ one_more a.differed)
