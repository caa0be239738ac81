-- Calls that put another trailer, and those that put nothing else: begin, finish and format.
use Rattle.std.proofs.Common.{◌≡◌, ℕ, ◌+◌, ◌-◌, ◌<◌, ◌≤◌, Bool, true, cond, ◌≢◌, List, [], map, length, is_some, Ok, Err, Option, unwrap_or, sym, refl, ap, ◌∙◌, subst, ap₂, inl, inr, ⊎_elim, arith, lit<, length-set, get_or-set_other, get_or-set_same}
use Rattle.std.specs.List.{range_with_len}
use Rattle.std.proofs.lemmas.Bool.{and_from, lt-ltb, le-ltb}
use Rattle.octets.specs.Little.{Bytes}
use Rattle.card.specs.Meaning.{Meaning, count, at}
use Rattle.trailer.specs.declared.stage.Stage.{Stage}
use Rattle.trailer.specs.Trailers as trailers
use Rattle.trailer.specs.Trailers.{Fields, encode, decode, named, named_by, fresh, begun, finished}
use Rattle.trailer.proofs.Fields.{Ranged, Staged, zeros, decode_encode, valid_new}
use Rattle.law.specs.Suites.{Suite, Proper, check, opened}
use Rattle.law.specs.States.{State, Steady, storing, last, trailer, place, fitting, valid, fit, key_of}
use Rattle.law.specs.Shown.{counted, shown_at, shown}
use Rattle.law.specs.Calls.{Reply, Met, marked, another, format_early, format_late, begin_demands, finish_demands, Formatted, Begun, Finished}
use Rattle.law.specs.Runs.{first_key, shown_at_first}
use Rattle.law.proofs.Sealing.{check_bytes}
use Rattle.law.proofs.Finds.{other_is, fit_first, fit_second}
use Rattle.showing.specs.Showing.{Kept, ShowsFormatted}
use Rattle.showing.proofs.Finding.{having_loaded, having_first, first_among}
use Rattle.showing.proofs.Live.{Live, live, same_map, shown_all}
use Rattle.showing.proofs.Quiet.{put_done, put_refused, put_kept}

-- the store m, as long as that of v, with another trailer
module _ (c : Suite) (v : State) (m : Meaning) (t : Fields) (long : count m ≡ count v.store) (ranged : Ranged t)
    (some : 1 ≤ t.reach) (room : t.reach ≤ last v.store) (stage : Staged t.stage t) (fits : fitting c v.keys t ≡ true) where
  abbrev u : State
  u = storing v (marked c v m t)

  abbrev T : ℕ
  T = last v.store

  same_last : last u.store ≡ T
  same_last = ap (λ (n : ℕ). n - 1) (length-set m.sectors T (encode c.number t) ∙ long)

  at_last : at u.store (last u.store) ≡ encode c.number t
  at_last = ap (at u.store) same_last ∙ get_or-set_same m.sectors T (encode c.number t) [] (omega arith)

  trailer_is : trailer u ≡ t
  trailer_is = ap decode at_last ∙ decode_encode c.number t ranged

  valid_is : valid c u ≡ true
  valid_is = ap₂ (trailers.valid c.number) same_last at_last ∙ valid_new c.number T t ranged some room stage

  fit_is : fit c u ≡ true
  fit_is = ap (fitting c v.keys) trailer_is ∙ fits

  counted_is : counted c u ≡ t.reach
  counted_is =
      ap (λ (b : Bool). cond b (trailer u).reach 0) (and_from (valid c u) (fit c u) valid_is fit_is)
      ∙ ap (λ (f : Fields). f.reach) trailer_is

  -- what data sector i shows: what lies there in m, under the key that the new trailer names
  abbrev pub shown_under : ℕ → List ℕ
  shown_under i = opened c (key_of c v (named t i)) i (at m (place v t.reach i))

  one_is : (i : ℕ) → i < t.reach → shown_at c u i ≡ shown_under i
  one_is i l =
      ap (λ (f : Fields). opened c (key_of c v (named f i)) i (at u.store (last u.store - f.reach + i))) trailer_is
      ∙ ap (λ (n : ℕ). opened c (key_of c v (named t i)) i (at u.store (n - t.reach + i))) same_last
      ∙ ap (opened c (key_of c v (named t i)) i)
      (get_or-set_other m.sectors T (place v t.reach i) (encode c.number t) [] (let z : place v t.reach i ≢ T = omega arith in z))

  pub marked_shows : shown c u ≡ map shown_under (range_with_len 0 t.reach)
  marked_shows = shown_all c u t.reach counted_is ∙ same_map (shown_at c u) shown_under t.reach one_is

-- a trailer that names for each data sector the check that it had
module _ (c : Suite) (v : State) (l : Live c v) (t : Fields) (reaches : t.reach ≡ (trailer v).reach) (ranged : Ranged t)
    (stage : Staged t.stage t) (fits : fitting c v.keys t ≡ true)
    (names : (i : ℕ) → i < (trailer v).reach → named t i ≡ named (trailer v) i) where
  pub renamed_shows : shown c (storing v (marked c v v.store t)) ≡ shown c v
  renamed_shows =
      let some = l.some in
      let room = l.room in
      let reach = (trailer v).reach in
      marked_shows c v v.store t refl ranged (omega arith) (omega arith) stage fits
      ∙ ap (λ (n : ℕ). map (λ i. opened c (key_of c v (named t i)) i (at v.store (place v n i))) (range_with_len 0 n)) reaches
      ∙ same_map _ (shown_at c v) reach (λ i h. ap (λ (x : List ℕ). opened c (key_of c v x) i (at v.store (place v reach i))) (names i h))
      ∙ sym (shown_all c v reach l.counts)

module _ (c : Suite) (p : Proper c) (v w : State) (s : Steady v) where
  abbrev t : Fields
  t = trailer v

  -- the key that a begin changes to
  abbrev new : List ℕ
  new = unwrap_or (another c v) []

  begun_shows : Met [] (begin_demands c v) v → shown c (storing v (marked c v v.store (begun t (check c new)))) ≡ shown c v
  begun_shows (_, _, (valid, (fits, (has, (rests, _))))) =
      let l = live c v s valid fits in
      let o = other_is c t.first v.keys (has rests) in
      let key = s.keys new o.0 in
      renamed_shows c v l (begun t (check c new)) refl
      (record {
        reach = l.ranged.reach;
        watermark = lit< tt;
        first = l.ranged.first;
        second = check_bytes c p new key;
        label = l.ranged.label;
      })
      (let z : 0 ≤ t.reach = omega arith in z, λ e. o.1 (sym e))
      (and_from _ _ (fit_first c v fits) (having_loaded c new v.keys o.0))
      (λ i h.
      ap (λ (b : Bool). cond b (check c new) t.first) (le-ltb i 0 (omega arith))
      ∙ sym (ap (λ (x : Stage). named_by x t i) rests))

  pub begin_kept : (took : Bool) (r : Reply) → Begun c v took r w → Kept c v w
  begin_kept took r h = put_kept c v w [] (begin_demands c v) tt (marked c v v.store (begun t (check c new))) took r begun_shows h

  finished_shows : Met [] (finish_demands c v) v → shown c (storing v (marked c v v.store (finished t))) ≡ shown c v
  finished_shows (_, _, (valid, (fits, (changes, (all, _))))) =
      let l = live c v s valid fits in
      renamed_shows c v l (finished t) refl
      (record { reach = l.ranged.reach; watermark = lit< tt; first = l.ranged.second; second = zeros; label = l.ranged.label })
      (refl, refl)
      (and_from _ _ (fit_second c v fits changes) refl)
      (λ i h.
      sym (ap (λ (x : Stage). named_by x t i) changes
      ∙ ap (λ (b : Bool). cond b t.second t.first) (lt-ltb i t.watermark (omega arith))))

  pub finish_kept : (took : Bool) (r : Reply) → Finished c v took r w → Kept c v w
  finish_kept took r h = put_kept c v w [] (finish_demands c v) tt (marked c v v.store (finished t)) took r finished_shows h

  module _ (reach : ℕ) (label : List ℕ) (bytes : Bytes (length label) label) where
    abbrev key : List ℕ
    key = first_key v.keys

    abbrev formatted : Meaning
    formatted = marked c v v.store (fresh reach (check c key) label)

    fresh_shows : Met (format_early c v label) (format_late c v reach) v → shown c (storing v formatted) ≡ map (shown_at_first c reach v) (range_with_len 0 reach)
    fresh_shows ((_, (sixteen, _)), _, (fits, (some, _))) =
        let few = s.store.few in
        let low = fits.0 in
        let high = fits.1 in
        let found = having_first c v.keys some in
        marked_shows c v v.store (fresh reach (check c key) label) refl
        (record {
          reach = omega arith;
          watermark = lit< tt;
          first = check_bytes c p key (s.keys key (first_among v.keys some));
          second = zeros;
          label = subst (λ (n : ℕ). Bytes n label) sixteen bytes;
        })
        low high (refl, refl)
        (and_from _ _ (ap (λ (o : Option (List ℕ)). is_some o) found) refl)
        ∙ same_map _ (shown_at_first c reach v) reach
        (λ i h. ap (λ (o : Option (List ℕ)). opened c (unwrap_or o []) i (at v.store (place v reach i))) found)

    pub format_shows : (took : Bool) (r : Reply) → Formatted c v reach label took r w → ShowsFormatted c v reach r w
    format_shows took (Ok a) h = let d = put_done c v w (format_early c v label) (format_late c v reach) tt formatted took a h in d.1 ∙ fresh_shows d.0
    format_shows took (Err e) h =
        ⊎_elim inl
        (λ d. inr ((d.0.1, d.1), d.2 ∙ fresh_shows d.0))
        (put_refused c v w (format_early c v label) (format_late c v reach) tt formatted took e h)
