-- A script of one call leaves one entry in the log.
use Rattle.std.proofs.Common.{◌≡◌, ℕ, List, [], ◌∷◌, length, get_or, Option, ap, ◌∙◌, arith}
use Rattle.trailer.specs.declared.stage.Stage.{Stage}
use Rattle.law.specs.Suites.{Suite}
use Rattle.law.specs.States.{State}
use Rattle.history.specs.declared.script.Call.{Call}
use Rattle.history.specs.declared.script.Entry.{Entry}
use Rattle.history.specs.Scripts.{call_of, calls_of, Played}
use Rattle.report.specs.declared.Report.{Report}
use Rattle.report.specs.Reports.{report_of, Reported}

none_differs : {X : Type 0} (x : X) → [] ≡ x ∷ [] → ⊥
none_differs x e = let z : ◌≡◌ {A = ℕ} 0 1 = ap length e in omega arith

two_differ : {X : Type 0} (a b x : X) (l : List X) → a ∷ b ∷ l ≡ x ∷ [] → ⊥
two_differ a b x l e = let z = ap length e in omega arith

pub reported : (c : Suite) (v : State) (s : Option Stage) (b : List ℕ) (x : Call) (r : Report) (w : State) (t : Option Stage) (b' : List ℕ) (log : List Entry) (e : Entry)
    → Played c v s b (x ∷ []) log w t b' → e ≡ get_or log 0 e → r ≡ report_of e → Reported c v s b x r w t b'
reported c v s b x r w t b' [] e p is so = absurd (none_differs x p.calls)
reported c v s b x r w t b' (f ∷ []) e p is so = record { entry = f; played = p; report = so ∙ ap report_of is }
reported c v s b x r w t b' (f ∷ g ∷ log) e p is so = absurd (two_differ (call_of f) (call_of g) x (calls_of log) p.calls)
