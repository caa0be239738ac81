-- What is printed for a line, and what it adds to the counts.
use Rattle.std.specs.Prelude.{◌≡◌, ℕ, ◌⊎◌, List, [], Some, None, string_bytes, Option, String}
use Rattle.std.specs.declared.alloc.Global.{Global}
use Rattle.units.specs.declared.fault.Expected.{Expected}
use Rattle.units.specs.declared.fault.Expected.TheVariants.{Memory}
use Rattle.units.specs.declared.read.Line.{Line}
use Rattle.units.specs.declared.reply.Tally.{Tally}
use Rattle.units.specs.declared.reply.Verdict.{Verdict}
use Rattle.units.specs.Lines.{Words, Says, Wrong}
use Rattle.words.specs.Words.{Split}
use Rattle.units.specs.Runs.{Outcome, Came}
use Rattle.units.specs.Replies.{reply_text, Matched, Counted}

-- the words say a task; what came of it is printed, with the verdict, and counted
pub record Served (ws : Words) (before after : Tally) (printed : List ℕ) : Type 0 where
  pub line : Line
  pub outcome : Outcome
  pub verdict : Option Verdict
  pub said : Says ws line
  pub came : Came line.task outcome
  pub matched : Matched line.expected outcome verdict
  pub counted : Counted verdict before after
  pub text : printed ≡ reply_text outcome verdict

-- a line without words is passed over, and of any other its words are served
abbrev pub Replied : List ℕ → Tally → Tally → Option (String Global) → Type 0
Replied line before after None = Split line [] × (after ≡ before)
Replied line before after (Some s) = (ws : Words) × Split line ws × Served ws before after (string_bytes s)

-- the error is that of the line's words; memory may run out at any
abbrev pub Unread : List ℕ → Expected → Type 0
Unread line e = (e ≡ Memory) ⊎ ((ws : Words) × Split line ws × Wrong ws e)
