-- Scripts of calls, the log of what was answered, and what is promised of them.
use Rattle.std.specs.Prelude.{◌≡◌, ℕ, Bool, true, cond, List, [], ◌∷◌, ◌++◌, length, replicate, is_some, Some, None, Ok, Err, Option, Result, ◌==◌}
use Rattle.std.specs.List.{AllByRecursion}
use Rattle.refusal.specs.declared.Refusal.{Refusal}
use Rattle.trailer.specs.declared.stage.Stage.{Stage}
use Rattle.trailer.specs.declared.stage.Stage.TheVariants.{Resting, Changing}
use Rattle.law.specs.Suites.{Suite}
use Rattle.law.specs.States.{State, Steady}
use Rattle.law.specs.Runs as runs
use Rattle.law.specs.Runs.{Event, History, Given, Does, Run, Starts, end_of, ever}
use Rattle.law.specs.Law.{Distinct, Lawful, Formats}
use Rattle.volume.specs.Answers.{given_keys}
use Rattle.volume.specs.declared.permits.Permit.{Permit}
use Rattle.volume.specs.Permits.{stage_held}
use Rattle.history.specs.declared.script.Call.{Call}
use Rattle.history.specs.declared.script.Call.TheVariants as call
use Rattle.history.specs.declared.script.Entry.{Entry}
use Rattle.history.specs.declared.script.Entry.TheVariants.{PoweredUp, Counted, Loaded, Formatted, Read, Wrote, Claimed, Begun, Stepped, Finished, HandedIn, NotMade}

-- the call that an entry of the log is about
abbrev pub call_of : Entry → Call
call_of (PoweredUp r) = call.PowerUp
call_of (Counted r) = call.Count
call_of (Loaded first second r) = call.Load first second
call_of (Formatted reach label r) = call.Format reach label
call_of (Read n r) = call.Read n
call_of (Wrote n bytes r) = call.Write n bytes
call_of (Claimed r) = call.Claim
call_of (Begun r) = call.Begin
call_of (Stepped r) = call.Step
call_of (Finished r) = call.Finish
call_of HandedIn = call.HandIn
call_of (NotMade c) = c

abbrev pub calls_of : List Entry → List Call
calls_of [] = []
calls_of (e ∷ es) = call_of e ∷ calls_of es

-- what the history has of an entry, with a work buffer of this length: nothing where no call was made
abbrev pub told : ℕ → Entry → Option runs.Entry
told size (PoweredUp r) = Some (runs.powered_up r)
told size (Counted r) = Some (runs.counted r)
told size (Loaded first second r) = Some (runs.loaded (given_keys first.now second) r)
told size (Formatted reach label r) = Some (runs.formatted reach label.now r)
told size (Read n r) = Some (runs.read n size r)
told size (Wrote n bytes r) = Some (runs.wrote n bytes.now r)
told size (Claimed r) = Some (runs.claimed r)
told size (Begun r) = Some (runs.began r)
told size (Stepped r) = Some (runs.stepped size r)
told size (Finished r) = Some (runs.finished r)
told size HandedIn = Some runs.handed_in
told size (NotMade c) = None

abbrev pub listed : {A : Type 0} → Option A → List A
listed None = []
listed (Some x) = x ∷ []

abbrev pub told_all : ℕ → List Entry → List runs.Entry
told_all size [] = []
told_all size (e ∷ es) = listed (told size e) ++ told_all size es

-- the stage of the permit that is held, if one is
abbrev pub held_stage : Option Permit → Option Stage
held_stage None = None
held_stage (Some p) = Some (stage_held p)

-- the permit that a call takes is not held
abbrev pub Lacks : Call → Option Stage → Type 0
Lacks call.PowerUp s = ⊥
Lacks call.Count s = ⊥
Lacks (call.Load first second) s = ⊥
Lacks (call.Format reach label) s = ⊥
Lacks (call.Read n) s = ⊥
Lacks (call.Write n bytes) s = ⊥
Lacks call.Claim s = ⊥
Lacks call.Begin s = s ≡ Some Resting → ⊥
Lacks call.Step s = s ≡ Some Changing → ⊥
Lacks call.Finish s = s ≡ Some Changing → ⊥
Lacks call.HandIn s = s ≡ None

-- the permit that is held before (s) and after (t) a call
abbrev pub Held : Entry → Option Stage → Option Stage → Type 0
Held (PoweredUp r) s t = t ≡ s
Held (Counted r) s t = t ≡ s
Held (Loaded first second r) s t = t ≡ s
Held (Formatted reach label r) s t = t ≡ s
Held (Read n r) s t = t ≡ s
Held (Wrote n bytes r) s t = t ≡ s
Held (Claimed (Ok stage)) s t = t ≡ Some stage
Held (Claimed (Err e)) s t = t ≡ s
Held (Begun (Ok _)) s t = (s ≡ Some Resting) × (t ≡ Some Changing)
Held (Begun (Err e)) s t = (s ≡ Some Resting) × (t ≡ s)
Held (Stepped r) s t = (s ≡ Some Changing) × (t ≡ s)
Held (Finished (Ok _)) s t = (s ≡ Some Changing) × (t ≡ Some Resting)
Held (Finished (Err e)) s t = (s ≡ Some Changing) × (t ≡ s)
Held HandedIn s t = (is_some s ≡ true) × (t ≡ None)
Held (NotMade c) s t = Lacks c s × (t ≡ s)

-- the permit that is held before and after a whole log
abbrev pub HeldAll : List Entry → Option Stage → Option Stage → Type 0
HeldAll [] s t = t ≡ s
HeldAll (e ∷ es) s t = (u : Option Stage) × (Held e s u × HeldAll es u t)

-- what a read leaves in the work buffer: its sector where it is done
abbrev pub read_works : Result (List ℕ) Refusal → List ℕ → List ℕ
read_works (Ok bytes) b = bytes
read_works (Err e) b = b

-- what an entry leaves in the work buffer: a read as above, a step zeros, any other call what was there
abbrev pub worked : Entry → List ℕ → List ℕ
worked (PoweredUp r) b = b
worked (Counted r) b = b
worked (Loaded first second r) b = b
worked (Formatted reach label r) b = b
worked (Read n r) b = read_works r b
worked (Wrote n bytes r) b = b
worked (Claimed r) b = b
worked (Begun r) b = b
worked (Stepped r) b = cond (length b == 520) (replicate 520 0) b
worked (Finished r) b = b
worked HandedIn b = b
worked (NotMade c) b = b

-- what a whole log leaves in the work buffer
abbrev pub worked_all : List Entry → List ℕ → List ℕ
worked_all [] b = b
worked_all (e ∷ es) b = worked_all es (worked e b)

-- an entry between two states: the call's own relation, or no change where no call was made
abbrev pub Happens : Suite → State → Option runs.Entry → State → Type 0
Happens c v None w = w ≡ v
Happens c v (Some e) w = Given e × ((took : Bool) × Does c v e took w)

-- the entries of a history, first to last
abbrev pub entries : History → List runs.Entry
entries [] = []
entries (e ∷ es) = entries es ++ (e.entry ∷ [])

-- a run from v to w with this log
pub record Logged (c : Suite) (size : ℕ) (v : State) (log : List Entry) (w : State) : Type 0 where
  pub events : History
  pub run : Run c v events
  pub end : end_of v events ≡ w
  pub tells : entries events ≡ told_all size log
  pub steady : AllByRecursion (λ e. Steady e.after) events

-- whatever run led from a format to v, that run and these events keep the law
abbrev pub CarriedOn : Suite → State → History → Type 0
CarriedOn c v es =
    (reach : ℕ) (start : State) (past : History) → Starts c reach start → Run c start past → end_of start past ≡ v
    → Distinct c (ever start (es ++ past)) → Lawful c reach start (es ++ past)

-- after each format among these events whose put took effect, the later events keep the law
abbrev pub CarriedFromFormats : Suite → State → History → Type 0
CarriedFromFormats c v es =
    (later earlier : History) (e : Event) (f : Formats e) → es ≡ later ++ (e ∷ earlier)
    → Distinct c (ever e.after later) → Lawful c f.0 e.after later

-- The promise of a whole script, with the state before (v) and after (w), the permit that is held (s, t) and the work
-- buffer (b, b') before and after: a run of exactly these calls, each by its own relation, that keeps the law.
pub record Played (c : Suite) (v : State) (s : Option Stage) (b : List ℕ) (script : List Call) (log : List Entry) (w : State) (t : Option Stage) (b' : List ℕ) : Type 0 where
  pub logged : Logged c (length b) v log w
  pub calls : calls_of log ≡ script
  pub goes_on : CarriedOn c v logged.events
  pub begins : CarriedFromFormats c v logged.events
  pub held : HeldAll log s t
  pub works : b' ≡ worked_all log b
