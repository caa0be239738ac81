-- A format gives a start, and a change of the key is carried through from it.
use Rattle.std.proofs.Common.{◌≡◌, ℕ, zero, suc, ◌+◌, ◌<◌, ◌≤◌, true, false, ◌≢◌, List, [], ◌∷◌, ◌++◌, get_or, take, replicate, is_some, Some, Ok, unwrap_or, sym, refl, ap, ◌∙◌, subst, inl, inr, ⊎_elim, add-one, arith}
use lib.ListN.{length-replicate, get_or-replicate}
use Rattle.std.proofs.lemmas.Slice.Eq.{bytes_eq-Decides}
use Rattle.std.proofs.lemmas.Bool.{and_from, cases_Bool}
use Rattle.std.specs.Str.{bytes_eq}
use Rattle.octets.specs.Little.{Bytes, xored}
use Rattle.octets.proofs.Lists.{part_bytes, append_bytes, xored_bytes, xored_twice}
use Rattle.card.specs.Meaning.{Sector, put}
use Rattle.cipher.specs.Maps.{Maps}
use Rattle.xts.specs.Xts as xts
use Rattle.trailer.specs.declared.stage.Stage.{Stage}
use Rattle.trailer.specs.declared.stage.Stage.TheVariants.{Resting, Changing}
use Rattle.trailer.specs.Trailers.{Fields, fresh, begun, moved}
use Rattle.trailer.specs.Trailers as trailers
use Rattle.trailer.proofs.Fields.{zeros}
use Rattle.law.specs.Suites.{Suite, Proper, suite, check}
use Rattle.law.specs.States.{State, Among, storing, trailer, place, having, other, second_fits, fit}
use Rattle.law.specs.Calls.{another, renewed, marked}
use Rattle.law.specs.Runs.{History, end_of, Run, Starts, ever, reach_of, Change, rests, runs, change, first_key, begins, goes_on, ends, began, stepped, finished}
use Rattle.law.specs.Law.{Distinct}
use Rattle.law.specs.Live.{CanFormat, Ready, StartsExist, ChangeCanEnd}
use Rattle.law.proofs.Turns.{Agrees}
use Rattle.law.proofs.Laws.{InvAt, always}

-- a list is like itself
like_itself : (xs : List ℕ) → bytes_eq xs xs ≡ true
like_itself xs = (bytes_eq-Decides xs xs).1 refl

module _ (c : Suite) (k j : List ℕ) where
  -- the two keys are found
  finds_first : (ks : List (List ℕ)) → is_some (having c (check c k) (k ∷ ks)) ≡ true
  finds_first ks = rw (like_itself (check c k))

  finds_second : is_some (having c (check c j) (k ∷ j ∷ [])) ≡ true
  finds_second =
      ⊎_elim
      (λ (t : bytes_eq (check c k) (check c j) ≡ true). rw t)
      (λ (t : bytes_eq (check c k) (check c j) ≡ false). rw (t, like_itself (check c j)))
      (cases_Bool (bytes_eq (check c k) (check c j)))

  module _ (differ : check c k ≢ check c j) where
    finds_other : other c (check c k) (k ∷ j ∷ []) ≡ Some j
    finds_other =
        ⊎_elim
        (λ (t : bytes_eq (check c j) (check c k) ≡ true). absurd (differ (sym ((bytes_eq-Decides (check c j) (check c k)).0 t))))
        (λ (t : bytes_eq (check c j) (check c k) ≡ false). rw (like_itself (check c k), t))
        (cases_Bool (bytes_eq (check c j) (check c k)))

    distinct_two : Distinct c (k ∷ j ∷ [])
    distinct_two a b (inl x) (inl y) e = x ∙ sym y
    distinct_two a b (inl x) (inr (inl y)) e = absurd (differ (ap (λ z. check c z) (sym x) ∙ e ∙ ap (λ z. check c z) y))
    distinct_two a b (inl x) (inr (inr y)) e = absurd y
    distinct_two a b (inr (inl x)) (inl y) e = absurd (differ (ap (λ z. check c z) (sym y) ∙ sym e ∙ ap (λ z. check c z) x))
    distinct_two a b (inr (inl x)) (inr (inl y)) e = x ∙ sym y
    distinct_two a b (inr (inl x)) (inr (inr y)) e = absurd y
    distinct_two a b (inr (inr x)) y e = absurd x

module _ (c : Suite) (reach : ℕ) (v : State) (k j : List ℕ) (g : Ready c reach v k j) where
  -- a run without formats and loads, as far as a change
  record Come (x : Change) : Type 0 where
    es : History
    run : Run c v es
    at : change c v es ≡ x
    reaches : reach_of reach es ≡ reach
    power : (end_of v es).store.power ≡ true
    keys : (end_of v es).keys ≡ k ∷ j ∷ []
    all : ever v es ≡ k ∷ j ∷ []

  module _ {x : Change} (r : Come x) where
    abbrev here : State
    here = end_of v r.es

    abbrev t : Fields
    t = trailer here

    inv : InvAt c g.proper reach v r.es
    inv =
        always c g.proper reach v r.es g.starts r.run
        (subst (λ (ks : List (List ℕ)). Distinct c ks) (sym r.all) (distinct_two c k j g.differ))

    agreed : Agrees c (ever v r.es) x t
    agreed = subst (λ (y : Change). Agrees c (ever v r.es) y t) r.at inv.agrees

    reached : t.reach ≡ reach
    reached = inv.reaches ∙ r.reaches

    -- the keys fit
    found_first : t.first ≡ check c k → is_some (having c t.first here.keys) ≡ true
    found_first e =
        ap (λ y. is_some (having c y here.keys)) e ∙ ap (λ ks. is_some (having c (check c k) ks)) r.keys ∙ finds_first c k j (j ∷ [])

    found_second : t.second ≡ check c j → is_some (having c t.second here.keys) ≡ true
    found_second e =
        ap (λ y. is_some (having c y here.keys)) e ∙ ap (λ ks. is_some (having c (check c j) ks)) r.keys ∙ finds_second c k j

    fits_at_rest : t.first ≡ check c k → t.stage ≡ Resting → fit c here ≡ true
    fits_at_rest a s = and_from _ _ (found_first a) (ap (λ (y : Stage). second_fits c y here.keys t) s)

    fits_changing : t.first ≡ check c k → t.second ≡ check c j → t.stage ≡ Changing → fit c here ≡ true
    fits_changing a b s = and_from _ _ (found_first a) (ap (λ (y : Stage). second_fits c y here.keys t) s ∙ found_second b)

  come : Come (rests k)
  come = record {
    es = [];
    run = tt;
    at = ap (λ ks. rests (first_key ks)) g.keys;
    reaches = refl;
    power = g.power;
    keys = g.keys;
    all = g.keys;
  }

  begin : Come (rests k) → Come (runs k j 0)
  begin r =
      let u = here r in
      let a = agreed r in
      let found : another c u ≡ Some j =
      ap (λ y. other c y u.keys) a.1 ∙ ap (λ ks. other c (check c k) ks) r.keys ∙ finds_other c k j g.differ in
      let w = storing u (marked c u u.store (begun (trailer u) (check c (unwrap_or (another c u) [])))) in
      let new : unwrap_or (other c (check c k) u.keys) [] ≡ j =
      ap (λ ks. unwrap_or (other c (check c k) ks) []) r.keys ∙ ap (λ o. unwrap_or o []) (finds_other c k j g.differ) in
      record {
        es = record { entry = began (Ok tt); took = true; after = w } ∷ r.es;
        run = (
          tt,
          ((tt, r.power, ((inv r).valid, (fits_at_rest r a.1 a.0, ((λ _. ap (λ o. is_some o) found), (a.0, tt))))), refl, refl),
          r.run,
        );
        at = ap (λ y. begins c u.keys y) r.at ∙ ap (λ y. runs k y 0) new;
        reaches = r.reaches;
        power = r.power;
        keys = r.keys;
        all = r.all;
      }

  step : (n : ℕ) → n < reach → Come (runs k j n) → Come (runs k j (n + 1))
  step n lt r =
      let u = here r in
      let t = trailer u in
      let a = agreed r in
      let less : t.watermark < t.reach = omega (arith, lt, a.3, reached r) in
      let w = storing u (marked c u (put u.store (place u t.reach t.watermark) (renewed c u)) (moved t)) in
      record {
        es = record { entry = stepped 520 (Ok (t.watermark + 1)); took = true; after = w } ∷ r.es;
        run = (
          tt,
          (((refl, tt), r.power, ((inv r).valid, (fits_changing r a.1 a.2 a.0, (a.0, (omega (arith, less), tt))))), refl, refl),
          r.run,
        );
        at = ap goes_on r.at;
        reaches = r.reaches;
        power = r.power;
        keys = r.keys;
        all = r.all;
      }

  steps : (n : ℕ) → n ≤ reach → Come (runs k j n)
  steps zero h = begin come
  steps (suc n) h = rw (sym (add-one n)) (step n h (steps n (omega arith)))

  finish : Come (runs k j reach) → Come (rests j)
  finish r =
      let u = here r in
      let t = trailer u in
      let a = agreed r in
      let full : t.reach ≤ t.watermark = omega (arith, a.3, reached r) in
      let w = storing u (marked c u u.store (trailers.finished t)) in
      record {
        es = record { entry = finished (Ok tt); took = true; after = w } ∷ r.es;
        run = (
          tt,
          ((tt, r.power, ((inv r).valid, (fits_changing r a.1 a.2 a.0, (a.0, (omega (arith, full), tt))))), refl, refl),
          r.run,
        );
        at = ap ends r.at;
        reaches = r.reaches;
        power = r.power;
        keys = r.keys;
        all = r.all;
      }

pub change_can_end : ChangeCanEnd
change_can_end c reach v k j g =
    let r = finish c reach v k j g (steps c reach v k j g reach (omega arith)) in (r.es, r.run, r.at)

-- what a format leaves
after_format : (c : Suite) (v : State) (reach : ℕ) (label : List ℕ) → CanFormat v reach label
    → (w : State) × Starts c reach w × (w.store.power ≡ true) × (w.keys ≡ v.keys)
after_format c v reach label f = (
  storing v (marked c v v.store (fresh reach (check c (first_key v.keys)) label)),
  record {
    before = v;
    label = label;
    reply = Ok tt;
    steady = f.steady;
    given = subst (λ (n : ℕ). Bytes n label) (sym f.labelled.0) f.labelled;
    formats = (((f.permit_in, (f.labelled.0, tt)), f.power, ((omega (arith, f.some), omega (arith, f.room)), (omega (arith, f.key), tt))), refl, refl);
  },
  f.power,
  refl,
)

-- a cipher that adds the first half of the key to a block, on a store of two blank sectors
adds : Maps
adds key block = xored block (take 16 key)

abbrev adding : Suite
adding = suite 0 adds adds

half : (key : List ℕ) → Bytes 32 key → Bytes 16 (take 16 key)
half key h = part_bytes 0 16 32 key (omega arith) h

adds_twice : (key block : List ℕ) → Bytes 32 key → Bytes 16 block → adds key (adds key block) ≡ block
unfolding adds
adds_twice key block hk hb = xored_twice block (take 16 key) (hb.0 ∙ sym (half key hk).0)

adds_block : (key block : List ℕ) → Bytes 32 key → Bytes 16 block → Bytes 16 (adds key block)
unfolding adds
adds_block key block hk hb = xored_bytes 16 block (take 16 key) hb (half key hk)

adding_proper : Proper adding
adding_proper = record {
  number = omega arith;
  inverse = record { undone = adds_twice; redone = adds_twice; forward_block = adds_block; back_block = adds_block };
}

all_bytes : (n x : ℕ) → x < 256 → Bytes n (replicate n x)
all_bytes n x h = (length-replicate n x, λ i l. rw (get_or-replicate n i x 0 l) h)

blank : List ℕ
blank = replicate 520 0

blank_sector : Sector blank
unfolding blank
blank_sector = all_bytes 520 0 (omega arith)

-- a key whose halves are all x and all y
abbrev key_of_two : ℕ → ℕ → List ℕ
key_of_two x y = replicate 32 x ++ replicate 32 y

two_key : (x y : ℕ) → x < 256 → y < 256 → Bytes 64 (key_of_two x y)
two_key x y h l = append_bytes 32 32 (replicate 32 x) (replicate 32 y) (all_bytes 32 x h) (all_bytes 32 y l)

abbrev one_key : List ℕ
one_key = key_of_two 1 2

abbrev other_key : List ℕ
other_key = key_of_two 3 4

abbrev blank_volume : State
blank_volume = record { store = record { sectors = blank ∷ blank ∷ []; power = true }; keys = one_key ∷ other_key ∷ []; out = false }

each_blank : (n : ℕ) → n < 2 → Sector (get_or (blank ∷ blank ∷ []) n [])
each_blank zero h = blank_sector
each_blank (suc zero) h = blank_sector
each_blank (suc (suc n)) h = absurd (let z : ⊥ = omega arith in z)

each_key : (k : List ℕ) → Among k (one_key ∷ other_key ∷ []) → Bytes 64 k
each_key k (inl e) = subst (λ (y : List ℕ). Bytes 64 y) (sym e) (two_key 1 2 (omega arith) (omega arith))
each_key k (inr (inl e)) = subst (λ (y : List ℕ). Bytes 64 y) (sym e) (two_key 3 4 (omega arith) (omega arith))
each_key k (inr (inr h)) = absurd h

blank_format : CanFormat blank_volume 1 (replicate 16 0)
blank_format = record {
  steady = record { store = record { few = omega arith; each = each_blank }; keys = each_key };
  power = refl;
  permit_in = refl;
  key = omega arith;
  some = omega arith;
  room = omega arith;
  labelled = zeros;
}

-- with this cipher the first byte of a check is that of the key
checks_differ : check adding one_key ≢ check adding other_key
unfolding xts.check xts.encipher xts.walked adds
checks_differ e = let z : ◌≡◌ {A = ℕ} 1 3 = ap (λ xs. get_or xs 0 0) e in omega arith

ready : (reach : ℕ) × (v : State) × Ready adding reach v one_key other_key
ready =
    let s = after_format adding blank_volume 1 (replicate 16 0) blank_format in
    (1, s.0, record { proper = adding_proper; starts = s.1; power = s.2; keys = s.3; differ = checks_differ })

pub starts_exist : StartsExist
starts_exist = record { every = after_format; some = (adding, ready.0, ready.1, one_key, other_key, ready.2) }
