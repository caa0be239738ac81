-- One call more of a script, and the law over all of it.
use Rattle.std.proofs.Common.{◌≡◌, ℕ, ◌+◌, ◌<◌, ◌≤◌, Bool, List, [], ◌∷◌, ◌++◌, length, get_or, take, Some, None, Option, sym, refl, ap, ◌∙◌, subst, take_all}
use Rattle.std.specs.List.{AllByRecursion}
use Rattle.std.proofs.lemmas.List.{take_more, append_assoc, append-nil}
use Rattle.trailer.specs.declared.stage.Stage.{Stage}
use Rattle.law.specs.Suites.{Suite, Proper}
use Rattle.law.specs.States.{State, Steady}
use Rattle.law.specs.Runs as runs
use Rattle.law.specs.Runs.{Event, History, Given, Does, Run, Starts, end_of, ever}
use Rattle.law.proofs.Laws.{law, append, end_of_append}
use Rattle.history.specs.declared.script.Call.{Call}
use Rattle.history.specs.declared.script.Entry.{Entry}
use Rattle.history.specs.Scripts.{call_of, calls_of, told, listed, told_all, Happens, Logged, Held, HeldAll, worked, worked_all, CarriedOn, CarriedFromFormats, Played}

told_push : (size : ℕ) (log : List Entry) (e : Entry) → told_all size (log ++ (e ∷ [])) ≡ told_all size log ++ listed (told size e)
told_push size [] e = append-nil (listed (told size e))
told_push size (x ∷ log) e = ap (λ l. listed (told size x) ++ l) (told_push size log e) ∙ sym (append_assoc (listed (told size x)) (told_all size log) (listed (told size e)))

pub logged_none : (c : Suite) (size : ℕ) (v : State) → Logged c size v [] v
logged_none c size v = record { events = []; run = tt; end = refl; tells = refl; steady = tt }

-- one event more, or none where no call was made
grown : (c : Suite) (size : ℕ) (v : State) (log log' : List Entry) (w x : State) (o : Option runs.Entry) → Logged c size v log w → Happens c w o x → Steady x
    → told_all size log' ≡ told_all size log ++ listed o → Logged c size v log' x
grown c size v log log' w x None l h st more =
    record { events = l.events; run = l.run; end = l.end ∙ sym h; tells = l.tells ∙ sym (append-nil (told_all size log)) ∙ sym more; steady = l.steady }
grown c size v log log' w x (Some e) l (g, (took, d)) st more =
    record {
      events = record { entry = e; took = took; after = x } ∷ l.events;
      run = (g, subst (λ (u : State). Does c u e took x) (sym l.end) d, l.run);
      end = refl;
      tells = ap (λ es. es ++ (e ∷ [])) l.tells ∙ sym more;
      steady = (st, l.steady);
    }

pub logged_to : (c : Suite) (size : ℕ) (v : State) (log log' : List Entry) (w x : State) (e : Entry) → Logged c size v log w → Happens c w (told size e) x → Steady x
    → log' ≡ log ++ (e ∷ []) → Logged c size v log' x
logged_to c size v log log' w x e l h st eq =
    grown c size v log log' w x (told size e) l h st (ap (told_all size) eq ∙ told_push size log e)

calls_push : (log : List Entry) (e : Entry) → calls_of (log ++ (e ∷ [])) ≡ calls_of log ++ (call_of e ∷ [])
calls_push [] e = refl
calls_push (a ∷ log) e = ap (λ l. call_of a ∷ l) (calls_push log e)

pub calls_to : (log log' : List Entry) (e : Entry) (script : List Call) (i : ℕ) (d : Call) → calls_of log ≡ take i script → i < length script → call_of e ≡ get_or script i d
    → log' ≡ log ++ (e ∷ []) → calls_of log' ≡ take (i + 1) script
calls_to log log' e script i d so h call eq =
    ap calls_of eq ∙ calls_push log e ∙ ap (λ l. l ++ (call_of e ∷ [])) so ∙ ap (λ x. take i script ++ (x ∷ [])) call ∙ sym (take_more script i d h)

pub held_to : (log log' : List Entry) (e : Entry) (s t u : Option Stage) → HeldAll log s t → Held e t u → log' ≡ log ++ (e ∷ []) → HeldAll log' s u
held_to log log' e s t u so h eq = subst (λ (l : List Entry). HeldAll l s u) (sym eq) (held_push log s so)
  where
    held_push : (l : List Entry) (s : Option Stage) → HeldAll l s t → HeldAll (l ++ (e ∷ [])) s u
    held_push [] s p = (u, (subst (λ (z : Option Stage). Held e z u) p h, refl))
    held_push (x ∷ l) s (z, (p, q)) = (z, (p, held_push l z q))

pub worked_to : (log log' : List Entry) (e : Entry) (b a d : List ℕ) → a ≡ worked_all log b → d ≡ worked e a → log' ≡ log ++ (e ∷ []) → d ≡ worked_all log' b
worked_to log log' e b a d so h eq = h ∙ ap (worked e) so ∙ sym (worked_push log b) ∙ ap (λ l. worked_all l b) (sym eq)
  where
    worked_push : (l : List Entry) (b : List ℕ) → worked_all (l ++ (e ∷ [])) b ≡ worked e (worked_all l b)
    worked_push [] b = refl
    worked_push (x ∷ l) b = worked_push l (worked x b)

-- a run cut at an event
later_run : (c : Suite) (v : State) (later earlier : History) (e : Event) → Run c v (later ++ (e ∷ earlier)) → Run c e.after later
later_run c v [] earlier e r = tt
later_run c v (f ∷ later) earlier e r =
    (r.0, subst (λ (u : State). Does c u f.entry f.took f.after) (end_of_append v (e ∷ earlier) later) r.1, later_run c v later earlier e r.2)

at_event : (c : Suite) (v : State) (later earlier : History) (e : Event) → Run c v (later ++ (e ∷ earlier)) → Given e.entry × Does c (end_of v earlier) e.entry e.took e.after
at_event c v [] earlier e r = (r.0, r.1)
at_event c v (f ∷ later) earlier e r = at_event c v later earlier e r.2

steady_before : (v : State) (later earlier : History) (e : Event) → Steady v → AllByRecursion (λ f. Steady f.after) (later ++ (e ∷ earlier)) → Steady (end_of v earlier)
steady_before v [] [] e s a = s
steady_before v [] (f ∷ earlier) e s a = a.1.0
steady_before v (f ∷ later) earlier e s a = steady_before v later earlier e s a.1

pub carried_on : (c : Suite) → Proper c → (v : State) (es : History) → Run c v es → CarriedOn c v es
carried_on c p v es r reach start past starts before end distinct =
    law c reach start (es ++ past) p starts (append c start past es before (subst (λ (u : State). Run c u es) (sym end) r)) distinct

pub carried_from_formats : (c : Suite) → Proper c → (v : State) (es : History) → Steady v → AllByRecursion (λ f. Steady f.after) es → Run c v es → CarriedFromFormats c v es
carried_from_formats c p v es st all r later earlier e (n, label, reply, is, took) eq distinct =
    let whole = subst (λ (fs : History). Run c v fs) eq r in
    let here = at_event c v later earlier e whole in
    let given = subst (λ (y : runs.Entry). Given y) is here.0 in
    let does = subst (λ (b : Bool). Does c (end_of v earlier) (runs.formatted n label reply) b e.after) took
    (subst (λ (y : runs.Entry). Does c (end_of v earlier) y e.took e.after) is here.1) in
    let starts : Starts c n e.after = record {
      before = end_of v earlier;
      label = label;
      reply = reply;
      steady = steady_before v later earlier e st (subst (λ (fs : History). AllByRecursion (λ f. Steady f.after) fs) eq all);
      given = given;
      formats = does;
    } in
    law c n e.after later p starts (later_run c v later earlier e whole) distinct

pub played : (c : Suite) → Proper c → (v : State) → Steady v → (s : Option Stage) (b : List ℕ) (script : List Call) (log : List Entry) (w : State) (t : Option Stage) (b' : List ℕ) (i : ℕ)
    → Logged c (length b) v log w → calls_of log ≡ take i script → length script ≤ i → HeldAll log s t → b' ≡ worked_all log b → Played c v s b script log w t b'
played c p v st s b script log w t b' i l so h held works = record {
  logged = l;
  calls = so ∙ take_all i script h;
  goes_on = carried_on c p v l.events l.run;
  begins = carried_from_formats c p v l.events st l.steady l.run;
  held = held;
  works = works;
}
