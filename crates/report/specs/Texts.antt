-- The line that is printed of a report.
use Rattle.std.specs.Prelude.{ℕ, List, ◌++◌, codes, decimal, Some, None, Ok, Err, Option, Result}
use Rattle.std.specs.Char.{encode_utf8}
use Rattle.refusal.specs.declared.Refusal.{Refusal}
use Rattle.refusal.specs.Numbers.{numbered}
use Rattle.trailer.specs.Stages.{stage_number}
use Rattle.report.specs.declared.Answer.{Answer}
use Rattle.report.specs.declared.Answer.TheVariants.{Done, Number, Stage, Ends}
use Rattle.report.specs.declared.Report.{Report}

-- 0 where the call is done, and what it answered
abbrev pub answer_text : Answer → List ℕ
answer_text Done = codes " 0"
answer_text (Number n) = codes " 0 " ++ decimal n
answer_text (Stage s) = codes " 0 " ++ decimal (stage_number s)
answer_text (Ends first last) = codes " 0 " ++ (decimal first ++ (codes " " ++ decimal last))

-- `-` where no call was made; else 0 with the answer, or the refusal's number
abbrev pub reply_text : Option (Result Answer Refusal) → List ℕ
reply_text None = codes " -"
reply_text (Some (Ok a)) = answer_text a
reply_text (Some (Err e)) = codes " " ++ decimal (numbered e)

abbrev pub text : Report → List ℕ
text r = encode_utf8 r.initial ++ reply_text r.reply
