-- Every run keeps the law.
use Rattle.std.proofs.Common.{◌≡◌, ℕ, ◌<◌, ◌≤◌, Bool, true, false, ◌↔◌, List, [], ◌∷◌, ◌++◌, Ok, Err, Result, sym, refl, ap, ◌∙◌, subst, inl, inr, arith}
use Rattle.std.proofs.lemmas.Bool.{true≢false}
use Rattle.refusal.specs.declared.Refusal.{Refusal}
use Rattle.card.specs.Meaning.{at}
use Rattle.trailer.specs.declared.stage.Stage.{Stage}
use Rattle.trailer.specs.declared.stage.Stage.TheVariants.{Changing}
use Rattle.trailer.specs.Trailers.{Fields, named}
use Rattle.trailer.proofs.Fields.{Staged}
use Rattle.law.specs.Suites.{Suite, Proper, opened}
use Rattle.law.specs.States.{State, Among, trailer, place, valid, fit, key_at}
use Rattle.law.specs.Runs.{Entry, read, stepped, Given, Does, Event, History, end_of, Run, Starts, loads, ever, reaching, reach_of, Change, rests, runs, change, key_under, done_steps, may_show}
use Rattle.law.specs.Law as stated
use Rattle.law.specs.Law.{Shows, Holds, Keeps, Distinct, Law}
use Rattle.law.proofs.Finds.{key_at_is, below_count}
use Rattle.law.proofs.Turns.{last_fields, watermark_of, Agrees, named_is, known_is, plain, Inv, staged}
use Rattle.law.proofs.Events.{sectors, among_right, as_format, formats, turn}

fewer : (c : Suite) (js ks : List (List ℕ)) → Distinct c (js ++ ks) → Distinct c ks
fewer c js ks d j k a b = d j k (among_right j js ks a) (among_right k js ks b)

-- a run carried on by another from its end
pub end_of_append : (v : State) (es fs : History) → end_of v (fs ++ es) ≡ end_of (end_of v es) fs
end_of_append v es [] = refl
end_of_append v es (f ∷ fs) = refl

pub append : (c : Suite) (v : State) (es fs : History) → Run c v es → Run c (end_of v es) fs → Run c v (fs ++ es)
append c v es [] r s = r
append c v es (f ∷ fs) r s = (
  s.0,
  subst (λ (u : State). Does c u f.entry f.took f.after) (sym (end_of_append v es fs)) s.1,
  append c v es fs r s.2,
)

module _ (c : Suite) (p : Proper c) (reach : ℕ) where
  abbrev pub InvAt : State → History → Type 0
  InvAt v es =
      Inv c (reach_of reach es) (sectors (end_of v es)) (end_of v es).keys (ever v es) (change c v es) (λ i. may_show c reach v i es) (done_steps es)

  -- after the format
  starts : (v : State) → Starts c reach v → InvAt v []
  starts v s =
      let u = s.before in
      let f = as_format c p reach s.label s.reply u v s.formats in
      formats c p reach s.label u v v.keys f s.steady.store s.given
      (λ k h. s.steady.keys k (subst (λ (ks : List (List ℕ)). Among k ks) f.keys h))
      (λ k h. subst (λ (ks : List (List ℕ)). Among k ks) (sym f.keys) h)

  pub always : (v : State) (es : History) → Starts c reach v → Run c v es → Distinct c (ever v es) → InvAt v es
  always v [] s r d = starts v s
  always v (e ∷ es) s r d =
      let d' = fewer c (loads e.entry) (ever v es) d in
      (turn c p (reach_of reach es) (end_of v es) e.after e.took e.entry (change c v es) (always v es s r.2 d') d' r.0 r.1).inv

  module _ (v : State) (es : History) where
    -- what sector i shows
    one : (i : ℕ) (q : List ℕ) → InvAt v es → Distinct c (ever v es) → Shows c reach v es i q
        → q ≡ plain c (reach_of reach es) (sectors (end_of v es)) (change c v es) i
    one i q inv d s =
        let a = inv.agrees in
        let k : s.key ≡ key_under (change c v es) i =
        d _ _ s.known (known_is c _ (change c v es) _ i a) (s.lies ∙ named_is c _ (change c v es) _ i a) in
        s.plain ∙ ap (λ y. opened c y i (at (end_of v es).store (place (end_of v es) (reach_of reach es) i))) k

    shown : (i : ℕ) (q : List ℕ) → InvAt v es → q ≡ plain c (reach_of reach es) (sectors (end_of v es)) (change c v es) i → Shows c reach v es i q
    shown i q inv e = record {
      key = key_under (change c v es) i;
      known = known_is c _ (change c v es) _ i inv.agrees;
      lies = sym (named_is c (ever v es) (change c v es) _ i inv.agrees);
      plain = e;
    }

  watermark_fits : (K : List (List ℕ)) (x : Change) (t : Fields) → Agrees c K x t → Staged t.stage t → watermark_of x ≤ t.reach
  watermark_fits K (rests k) t a s = omega arith
  watermark_fits K (runs old new w) t a s =
      let st : Staged Changing t = subst (λ (y : Stage). Staged y t) a.0 s in omega (arith, st.0, a.3)

  says : (K : List (List ℕ)) (t : Fields) (x : Change) → Agrees c K x t → stated.Agrees c x t
  says K t (rests k) a = (a.0, a.1)
  says K t (runs old new w) a = (a.0, a.1, a.2, a.3)

  holds : (v : State) (es : History) → InvAt v es → Distinct c (ever v es) → Holds c reach v es
  holds v es inv d =
      let t = last_fields (sectors (end_of v es)) in
      let x = change c v es in
      record {
        shows = λ i h. (plain c (reach_of reach es) (sectors (end_of v es)) x i, shown v es i _ inv refl, inv.shows i h);
        only = λ i h q r a b. one v es i q inv d a ∙ sym (one v es i r inv d b);
        valid = inv.valid;
        reaches = inv.reaches;
        agrees = says (ever v es) t x inv.agrees;
        lies = λ i h. named_is c (ever v es) x _ i inv.agrees;
        known = λ i h. known_is c (ever v es) x t i inv.agrees;
        steps = omega (arith, inv.steps, inv.reaches, watermark_fits (ever v es) x t inv.agrees (staged c (reach_of reach es) inv));
      }

  -- a done read
  tells : (v : State) (es : History) (e : Event) (i size : ℕ) (b : List ℕ) → InvAt v es → e.entry ≡ read i size (Ok b)
      → Does c (end_of v es) (read i size (Ok b)) e.took e.after → (i < reach_of reach es) × Shows c reach v (e ∷ es) i b
  tells v es e i size b inv is r =
      let u = end_of v es in
      let k = key_at c u i in
      let now = reach_of reach es in
      let same : e.after ≡ u = r.1.1 in
      let kept : reaching e.took e.entry now ≡ now = ap (λ y. reaching e.took y now) is in
      let within = below_count c u i r.0.2.0 in
      let found = key_at_is c u i within.fit in (
        omega (arith, within.less, inv.reaches),
        record {
          key = k;
          known = among_right k (loads e.entry) (ever v es) (inv.loaded k found.0);
          lies = found.1 ∙ ap (λ s. named (trailer s) i) (sym same);
          plain =
              r.1.0 ∙ ap (λ n. opened c k i (at u.store (place u n i))) (inv.reaches ∙ sym kept)
              ∙ ap (λ s. opened c k i (at s.store (place s (reaching e.took e.entry now) i))) (sym same);
        },
      )

  -- a step while a change runs
  left : (now : ℕ) (v w : State) (n : ℕ) (took : Bool) (r : Result ℕ Refusal) → (trailer v).stage ≡ Changing → (trailer v).watermark ≡ n → (trailer v).reach ≡ now → n ≤ now
      → valid c v ≡ true → Does c v (stepped 520 r) took w → v.store.power ≡ true → w.store.power ≡ true → fit c v ≡ true
      → ((f : Refusal) × (r ≡ Err f)) ↔ (n ≡ now)
  left now v w n true (Ok a) ch mk rc le ok d on lasts fits = (
    λ q. let e = q.1 in let z : ◌≡◌ {A = ℕ} 0 1 = cc in omega arith,
    λ e. let lt = d.0.2.1.1.1.0 in absurd (omega (arith, lt, mk, rc, e)),
  )
  left now v w n false (Ok a) ch mk rc le ok d on lasts fits = absurd d
  left now v w n true (Err f) ch mk rc le ok d on lasts fits = absurd (true≢false (sym lasts ∙ ap (λ s. s.store.power) d.2))
  left now v w n false (Err f) ch mk rc le ok (inl (inl d, is)) on lasts fits = absurd (d.0 refl)
  left now v w n false (Err f) ch mk rc le ok (inl (inr d, is)) on lasts fits = absurd d.1
  left now v w n false (Err f) ch mk rc le ok (inr (inl d)) on lasts fits = absurd (true≢false (sym lasts ∙ ap (λ s. s.store.power) d.2))
  left now v w n false (Err f) ch mk rc le ok (inr (inr (a, b, inl d, is))) on lasts fits = absurd (d.0 ok)
  left now v w n false (Err f) ch mk rc le ok (inr (inr (a, b, inr (g, inl d), is))) on lasts fits = absurd (d.0 fits)
  left now v w n false (Err f) ch mk rc le ok (inr (inr (a, b, inr (g, inr (h, inl d)), is))) on lasts fits = absurd (d.0 ch)
  left now v w n false (Err f) ch mk rc le ok (inr (inr (a, b, inr (g, inr (h, inr (j, inl d))), is))) on lasts fits =
      let no_room : (trailer v).watermark < (trailer v).reach → ⊥ = d.0 in
      (λ q. omega (arith, no_room, mk, rc), λ e. (f, refl))
  left now v w n false (Err f) ch mk rc le ok (inr (inr (a, b, inr (g, inr (h, inr (j, inr d))), is))) on lasts fits = absurd d.1

  running : (v : State) (es : History) (old new : List ℕ) (n : ℕ) → InvAt v es → change c v es ≡ runs old new n
      → ((trailer (end_of v es)).stage ≡ Changing) × ((trailer (end_of v es)).watermark ≡ n) × (n ≤ reach_of reach es)
  running v es old new n inv is =
      let t = trailer (end_of v es) in
      let a : Agrees c (ever v es) (runs old new n) t = subst (λ (x : Change). Agrees c (ever v es) x t) is inv.agrees in
      let m = watermark_fits (ever v es) (runs old new n) t a (staged c (reach_of reach es) inv) in
      (a.0, a.3, omega (arith, m, inv.reaches))

  keeps : (v : State) (e : Event) (es : History) → InvAt v es → Distinct c (ever v (e ∷ es)) → Given e.entry
      → Does c (end_of v es) e.entry e.took e.after → Keeps c reach v e es
  keeps v e es inv d g does =
      let d' = fewer c (loads e.entry) (ever v es) d in
      let next = turn c p (reach_of reach es) (end_of v es) e.after e.took e.entry (change c v es) inv d' g does in
      record {
        reads = λ i size b is. tells v es e i size b inv is (subst (λ (y : Entry). Does c (end_of v es) y e.took e.after) is does);
        leaves = λ i h un unformatted q s. shown v (e ∷ es) i q next.inv (one v es i q inv d' s ∙ sym (next.alike i h un unformatted));
        refuses = λ old new n r at-change is on lasts fits.
            let now = running v es old new n inv at-change in
            left (reach_of reach es) (end_of v es) e.after n e.took r now.0 now.1 inv.reaches now.2 inv.valid
            (subst (λ (y : Entry). Does c (end_of v es) y e.took e.after) is does) on lasts fits;
      }

pub law : Law
law c reach v [] p s r d = holds c p reach v [] (always c p reach v [] s r d) d
law c reach v (e ∷ es) p s r d =
    let before = always c p reach v es s r.2 (fewer c (loads e.entry) (ever v es) d) in
    (holds c p reach v (e ∷ es) (always c p reach v (e ∷ es) s r d) d, keeps c p reach v e es before d r.0 r.1)
