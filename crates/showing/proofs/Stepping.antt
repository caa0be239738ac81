-- A step keeps what is shown: one sector goes over to the new key, and the watermark passes it.
use Rattle.std.proofs.Common.{◌≡◌, ℕ, ◌+◌, ◌<◌, ◌≤◌, Bool, cond, ltb, ◌≢◌, List, [], Result, sym, ap, ◌∙◌, subst, ⊎_elim, arith, length-set, get_or-set_other, get_or-set_same}
use Rattle.std.proofs.lemmas.Bool.{and_from, cases_eq, cases_lt, lt-ltb, le-ltb}
use Rattle.refusal.specs.declared.Refusal.{Refusal}
use Rattle.octets.specs.Little.{Bytes}
use Rattle.card.specs.Meaning.{Meaning, at, put}
use Rattle.trailer.specs.declared.stage.Stage.{Stage}
use Rattle.trailer.specs.declared.stage.Stage.TheVariants.{Changing}
use Rattle.trailer.specs.Trailers.{Fields, named, named_by, moved}
use Rattle.trailer.proofs.Fields.{Staged}
use Rattle.law.specs.Suites.{Suite, Proper, opened}
use Rattle.law.specs.States.{State, Steady, storing, trailer, place, valid, key_of}
use Rattle.law.specs.Shown.{shown_at, shown}
use Rattle.law.specs.Calls.{marked, renewed, buffer_demands, step_demands, Stepped}
use Rattle.law.proofs.Sealing.{opened_sector, opened_sealed}
use Rattle.law.proofs.Finds.{having_is, fit_first, fit_second}
use Rattle.showing.specs.Showing.{Kept}
use Rattle.showing.proofs.Live.{Live, live, same_map, shown_all, before_last, data_sector}
use Rattle.showing.proofs.Quiet.{put_kept}
use Rattle.showing.proofs.Trailers.{marked_shows}

module _ (c : Suite) (p : Proper c) (v : State) (s : Steady v) (l : Live c v)
    (changes : (trailer v).stage ≡ Changing) (left : (trailer v).watermark < (trailer v).reach) where
  abbrev t : Fields
  t = trailer v

  abbrev mark : ℕ
  mark = t.watermark

  abbrev here : ℕ
  here = place v t.reach mark

  abbrev m : Meaning
  m = put v.store here (renewed c v)

  -- what data sector i shows, under the key of a check
  abbrev by : List ℕ → ℕ → List ℕ → List ℕ
  by check i sector = opened c (key_of c v check) i sector

  named_now : (i : ℕ) → named t i ≡ cond (ltb i mark) t.second t.first
  named_now i = ap (λ (x : Stage). named_by x t i) changes

  first_key : Bytes 64 (key_of c v t.first)
  first_key = s.keys _ (having_is c t.first v.keys (fit_first c v l.fits)).0

  second_key : Bytes 64 (key_of c v t.second)
  second_key = s.keys _ (having_is c t.second v.keys (fit_second c v l.fits changes)).0

  -- the sector that goes over
  here_is : by (named (moved t) mark) mark (at m here) ≡ shown_at c v mark
  here_is =
      let low = before_last c v s l mark left in
      let old = at v.store here in
      let sector = data_sector c v s l mark left in
      ap (λ (b : Bool). by (cond b t.second t.first) mark (at m here)) (lt-ltb mark (mark + 1) (omega arith))
      ∙ ap (by t.second mark) (get_or-set_same v.store.sectors here (renewed c v) [] (omega arith))
      ∙ opened_sealed c p (key_of c v t.second) mark (by t.first mark old) second_key
      (opened_sector c p (key_of c v t.first) mark old first_key sector)
      ∙ sym (ap (λ (x : List ℕ). by x mark old) (named_now mark)
      ∙ ap (λ (b : Bool). by (cond b t.second t.first) mark old) (le-ltb mark mark (omega arith)))

  -- the others lie as they did, under the same check
  same_side : (i : ℕ) → i ≢ mark → ltb i (mark + 1) ≡ ltb i mark
  same_side i off =
      ⊎_elim
      (λ (h : i < mark). lt-ltb i (mark + 1) (omega arith) ∙ sym (lt-ltb i mark h))
      (λ (h : mark ≤ i). le-ltb i (mark + 1) (omega arith) ∙ sym (le-ltb i mark h))
      (cases_lt i mark)

  others_are : (i : ℕ) → i ≢ mark → by (named (moved t) i) i (at m (place v t.reach i)) ≡ shown_at c v i
  others_are i off =
      ap (by (named (moved t) i) i)
      (get_or-set_other v.store.sectors here (place v t.reach i) (renewed c v) [] (λ e. off (omega arith)))
      ∙ ap (λ (x : List ℕ). by x i (at v.store (place v t.reach i)))
      (ap (λ (b : Bool). cond b t.second t.first) (same_side i off) ∙ sym (named_now i))

  each_is : (i : ℕ) → by (named (moved t) i) i (at m (place v t.reach i)) ≡ shown_at c v i
  each_is i =
      ⊎_elim
      (λ (e : i ≡ mark). subst (λ (k : ℕ). by (named (moved t) k) k (at m (place v t.reach k)) ≡ shown_at c v k) (sym e) here_is)
      (others_are i)
      (cases_eq i mark)

  differ : t.first ≢ t.second
  differ = (subst (λ (x : Stage). Staged x t) changes l.stage).1

  pub moved_shows : shown c (storing v (marked c v m (moved t))) ≡ shown c v
  moved_shows =
      let r = l.ranged in
      let few = r.reach in
      let up : mark + 1 ≤ t.reach = omega arith in
      marked_shows c v m (moved t) (length-set v.store.sectors here (renewed c v))
      (record { reach = few; watermark = omega arith; first = r.first; second = r.second; label = r.label })
      l.some l.room (up, differ)
      (and_from _ _ (fit_first c v l.fits) (fit_second c v l.fits changes))
      ∙ same_map _ (shown_at c v) t.reach (λ i h. each_is i)
      ∙ sym (shown_all c v t.reach l.counts)

module _ (c : Suite) (p : Proper c) (v w : State) (s : Steady v) (size : ℕ) where
  abbrev stepped : Meaning
  stepped = marked c v (put v.store (place v (trailer v).reach (trailer v).watermark) (renewed c v)) (moved (trailer v))

  pub step_kept : (took : Bool) (r : Result ℕ Refusal) → Stepped c v size took r w → Kept c v w
  step_kept took r h =
      put_kept c v w (buffer_demands c v size) (step_demands c v) ((trailer v).watermark + 1) stepped took r
      (λ (_, _, (valid, (fits, (changes, (left, _))))). moved_shows c p v s (live c v s valid fits) changes left) h
