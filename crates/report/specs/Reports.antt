-- What is reported of an entry of the log.
use Rattle.std.specs.Prelude.{◌≡◌, ℕ, List, [], ◌∷◌, codes, Some, None, Ok, Err, Option, Result, slice_index}
use Rattle.refusal.specs.declared.Refusal.{Refusal}
use Rattle.history.specs.declared.script.Call.{Call}
use Rattle.history.specs.declared.script.Call.TheVariants as call
use Rattle.history.specs.declared.script.Entry.{Entry}
use Rattle.history.specs.declared.script.Entry.TheVariants.{PoweredUp, Counted, Loaded, Formatted, Read, Wrote, Claimed, Begun, Stepped, Finished, HandedIn, NotMade}
use Rattle.history.specs.Scripts.{call_of, Played}
use Rattle.law.specs.Suites.{Suite}
use Rattle.law.specs.States.{State}
use Rattle.trailer.specs.declared.stage.Stage.{Stage}
use Rattle.report.specs.declared.Answer.{Answer}
use Rattle.report.specs.declared.Answer.TheVariants.{Done, Number, Stage as AtStage, Ends}
use Rattle.report.specs.declared.Report.{Report}

-- the one character of a text
abbrev pub one : List ℕ → ℕ
one s = slice_index s 0

abbrev pub initial_of : Call → ℕ
initial_of call.PowerUp = one (codes "P")
initial_of call.Count = one (codes "C")
initial_of (call.Load first second) = one (codes "L")
initial_of (call.Format reach label) = one (codes "F")
initial_of (call.Read n) = one (codes "R")
initial_of (call.Write n bytes) = one (codes "W")
initial_of call.Claim = one (codes "C")
initial_of call.Begin = one (codes "B")
initial_of call.Step = one (codes "S")
initial_of call.Finish = one (codes "F")
initial_of call.HandIn = one (codes "H")

-- the refusal, or where the call is done what is reported of its answer
abbrev pub replied : {X : Type 0} → (X → Answer) → Result X Refusal → Option (Result Answer Refusal)
replied answer (Ok x) = Some (Ok (answer x))
replied answer (Err e) = Some (Err e)

abbrev pub bare_reply : Result (Unit {0}) Refusal → Option (Result Answer Refusal)
bare_reply = replied (λ _. Done)

abbrev pub number_reply : Result ℕ Refusal → Option (Result Answer Refusal)
number_reply = replied Number

-- the first and the last byte of a sector
abbrev pub ends_of : List ℕ → Answer
ends_of bytes = Ends (slice_index bytes 0) (slice_index bytes 519)

-- none where no call was made
abbrev pub reply_of : Entry → Option (Result Answer Refusal)
reply_of (PoweredUp r) = bare_reply r
reply_of (Counted r) = number_reply r
reply_of (Loaded first second r) = bare_reply r
reply_of (Formatted reach label r) = bare_reply r
reply_of (Read n r) = replied ends_of r
reply_of (Wrote n bytes r) = bare_reply r
reply_of (Claimed r) = replied AtStage r
reply_of (Begun r) = bare_reply r
reply_of (Stepped r) = number_reply r
reply_of (Finished r) = bare_reply r
reply_of HandedIn = Some (Ok Done)
reply_of (NotMade c) = None

abbrev pub report_of : Entry → Report
report_of e = record { initial = initial_of (call_of e); reply = reply_of e }

-- A script of this call alone, with the state, the permit that is held and the work buffer before and after, left one
-- entry in the log; the report is that entry's.
pub record Reported (c : Suite) (v : State) (s : Option Stage) (b : List ℕ) (x : Call) (r : Report) (w : State) (t : Option Stage) (b' : List ℕ) : Type 0 where
  pub entry : Entry
  pub played : Played c v s b (x ∷ []) (entry ∷ []) w t b'
  pub report : r ≡ report_of entry
