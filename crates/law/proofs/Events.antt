-- Each event keeps what every event keeps.
use Rattle.std.proofs.Common.{◌≡◌, ℕ, ◌+◌, ◌-◌, ◌<◌, ◌≤◌, Bool, true, false, cond, not, ◌&&◌, eqb, ◌≢◌, ◌⊎◌, List, [], ◌∷◌, ◌++◌, length, get_or, set, is_some, Ok, Err, unwrap_or, sym, refl, ap, ◌∙◌, subst, inl, inr, ⊎_elim, not-suc-le-zero, arith}
use Rattle.std.proofs.lemmas.Bool.{lt-ltb, le-ltb, eq-eqb, ne_eqb}
use Rattle.std.specs.List.{AllByRecursion}
use Rattle.octets.specs.Little.{Bytes}
use Rattle.card.specs.Meaning.{Sound, off}
use Rattle.trailer.specs.declared.stage.Stage.{Stage}
use Rattle.trailer.specs.declared.stage.Stage.TheVariants.{Resting, Changing}
use Rattle.trailer.specs.Trailers as trailers
use Rattle.trailer.specs.Trailers.{encode, fresh}
use Rattle.trailer.proofs.Fields.{Staged, zeros}
use Rattle.law.specs.Suites.{Suite, Proper, check, sealed, opened}
use Rattle.law.specs.States.{State, Among, storing, keyed, last, trailer, place, other, fit, key_of, key_at}
use Rattle.law.specs.Shown.{counted}
use Rattle.law.specs.Calls as calls
use Rattle.law.specs.Calls.{Reply, another, renewed}
use Rattle.law.specs.Runs as entries
use Rattle.law.specs.Runs.{Entry, powered_up, loaded, formatted, read, wrote, claimed, began, stepped, finished, handed_in, Given, Does, loads, reaching, Change, rests, runs, begins, goes_on, ends, first_key, turned, steps_by, loses, shown_at_first, may_show_by}
use Rattle.law.specs.Law.{Distinct}
use Rattle.law.proofs.Sealing.{Key, check_bytes}
use Rattle.law.proofs.Finds.{having_is, other_is, fit_first, fit_second, key_at_is, below_count}
use Rattle.law.proofs.Turns.{plain, Inv, ranged, staged, quiet, written, made, marked, moved_on}

abbrev pub sectors : State → List (List ℕ)
sectors v = v.store.sectors

pub among_left : {A : Type 0} (x : A) (xs ys : List A) → Among x xs → Among x (xs ++ ys)
among_left x [] ys h = absurd h
among_left x (y ∷ xs) ys (inl e) = inl e
among_left x (y ∷ xs) ys (inr h) = inr (among_left x xs ys h)

pub among_right : {A : Type 0} (x : A) (xs ys : List A) → Among x ys → Among x (xs ++ ys)
among_right x [] ys h = h
among_right x (y ∷ xs) ys h = inr (among_right x xs ys h)

pub among_either : {A : Type 0} (x : A) (xs ys : List A) → Among x (xs ++ ys) → Among x xs ⊎ Among x ys
among_either x [] ys h = inr h
among_either x (y ∷ xs) ys (inl e) = inl (inl e)
among_either x (y ∷ xs) ys (inr h) = ⊎_elim (λ a. inl (inr a)) (λ a. inr a) (among_either x xs ys h)

widen : (t : Bool) (b y : List ℕ) (xs : List (List ℕ)) → Among y xs → Among y (cond t (b ∷ xs) xs)
widen true b y xs h = inr h
widen false b y xs h = h

first_known : (ks : List (List ℕ)) → 1 ≤ length ks → Among (first_key ks) ks
first_known [] h = absurd (not-suc-le-zero h)
first_known (k ∷ ks) h = inl refl

one_stage : {s : Stage} → s ≡ Resting → s ≡ Changing → ⊥
one_stage rest runs-now = let z : ◌≡◌ {A = ℕ} 0 1 = cc in omega arith

-- the keys that a load takes
loaded_keys : (ks : List (List ℕ)) → AllByRecursion (λ k. length k ≡ 64) ks → AllByRecursion (λ k. Bytes (length k) k) ks → (k : List ℕ) → Among k ks → Key k
loaded_keys [] long bs k h = absurd h
loaded_keys (j ∷ js) long bs k (inl e) = subst (λ (y : List ℕ). Key y) (sym e) (subst (λ (n : ℕ). Bytes n j) long.0 bs.0)
loaded_keys (j ∷ js) long bs k (inr h) = loaded_keys js long.1 bs.1 k h

-- no sector and no key is changed
pub record Same (v w : State) : Type 0 where
  pub sectors : sectors w ≡ sectors v
  pub keys : w.keys ≡ v.keys

same : (v w : State) → w ≡ v → Same v w
same v w e = record { sectors = ap sectors e; keys = ap (λ u. u.keys) e }

-- a refused call changes none
pub calm : {A B C D E F : Type 0} (v w : State)
    → (A × (w ≡ v)) ⊎ ((B × C × (w ≡ storing v (off v.store))) ⊎ (D × E × F × (w ≡ v))) → Same v w
calm v w (inl r) = same v w r.1
calm v w (inr (inl r)) = record { sectors = ap sectors r.2; keys = ap (λ u. u.keys) r.2 }
calm v w (inr (inr r)) = same v w r.3

-- the entry is no write to sector i, and no format, whose put took effect
abbrev pub Untouched : Bool → Entry → ℕ → Type 0
Untouched took e i = ((b : List ℕ) × (r : Reply) × (e ≡ wrote i b r) × (took ≡ true)) → ⊥

abbrev pub Unformatted : Bool → Entry → Type 0
Unformatted took e = ((n : ℕ) × (label : List ℕ) × (r : Reply) × (e ≡ formatted n label r) × (took ≡ true)) → ⊥

module _ (c : Suite) (p : Proper c) where
  -- a format whose put took effect, whatever was there before
  pub record Formats (reach : ℕ) (label : List ℕ) (v w : State) : Type 0 where
    pub long : length label ≡ 16
    pub some : 1 ≤ reach
    pub room : reach ≤ last v.store
    pub keyed : 1 ≤ length v.keys
    pub sectors : sectors w ≡ set (sectors v) (last v.store) (encode c.number (fresh reach (check c (first_key v.keys)) label))
    pub keys : w.keys ≡ v.keys

  pub as_format : (reach : ℕ) (label : List ℕ) (r : Reply) (v w : State) → calls.Formatted c v reach label true r w → Formats reach label v w
  as_format reach label (Ok u) v w r = record {
    long = r.0.0.1.0;
    some = r.0.2.0.0;
    room = r.0.2.0.1;
    keyed = r.0.2.1.0;
    sectors = ap sectors r.2;
    keys = ap (λ u. u.keys) r.2;
  }
  as_format reach label (Err f) v w r = record {
    long = r.0.0.1.0;
    some = r.0.2.0.0;
    room = r.0.2.0.1;
    keyed = r.0.2.1.0;
    sectors = ap sectors r.2;
    keys = ap (λ u. u.keys) r.2;
  }

  pub formats : (reach : ℕ) (label : List ℕ) (v w : State) (K : List (List ℕ)) → Formats reach label v w → Sound v.store → Bytes (length label) label
      → ((k : List ℕ) → Among k K → Key k) → ((k : List ℕ) → Among k v.keys → Among k K)
      → Inv c reach (sectors w) w.keys K (rests (first_key w.keys)) (λ i. shown_at_first c reach w i ∷ []) 0
  formats reach label v w K f sound bs proper inside =
      let k = first_key v.keys in
      let same : first_key w.keys ≡ k = ap first_key f.keys in
      let known : Among k K = inside k (first_known v.keys f.keyed) in
      let room = f.room in
      made c reach p (sectors v) (sectors w) w.keys K (fresh reach (check c k) label) (rests (first_key w.keys)) (λ i. shown_at_first c reach w i ∷ []) 0
      sound.few sound.each
      proper (λ j h. inside j (subst (λ (ks : List (List ℕ)). Among j ks) f.keys h))
      f.some room
      (record {
        reach = omega (arith, sound.few);
        watermark = omega arith;
        first = check_bytes c p k (proper k known);
        second = zeros;
        label = subst (λ (n : ℕ). Bytes n label) f.long bs;
      })
      refl (refl, refl) (refl, ap (λ y. check c y) (sym same), subst (λ (y : List ℕ). Among y K) (sym same) known)
      (omega arith) f.sectors (λ i h. inl refl)

  module _ (reach : ℕ) where
    still : {K : List (List ℕ)} {x : Change} {m : ℕ → List (List ℕ)} {n : ℕ} (v w : State) → Inv c reach (sectors v) v.keys K x m n → Same v w
        → Inv c reach (sectors w) w.keys K x m n × ((i : ℕ) → i < reach → plain c reach (sectors w) x i ≡ plain c reach (sectors v) x i)
    still {K} {x} {m} {n} v w inv s = (
      subst (λ (ss : List (List ℕ)). Inv c reach ss w.keys K x m n) (sym s.sectors)
          (subst (λ (ks : List (List ℕ)). Inv c reach (sectors v) ks K x m n) (sym s.keys) inv),
      λ i h. ap (λ ss. plain c reach ss x i) s.sectors,
    )

    rekeyed : {ss K ks ks' : List (List ℕ)} {x : Change} {m : ℕ → List (List ℕ)} {n : ℕ} → ks' ≡ ks → Inv c reach ss ks K x m n → Inv c reach ss ks' K x m n
    rekeyed {ss} {K} {ks} {ks'} {x} {m} {n} e inv = subst (λ (js : List (List ℕ)). Inv c reach ss js K x m n) (sym e) inv

    -- what an event leaves
    pub record After (v w : State) (took : Bool) (e : Entry) (K : List (List ℕ)) (x : Change) (m : ℕ → List (List ℕ)) (n : ℕ) : Type 0 where
      pub inv :
          Inv c (reaching took e reach) (sectors w) w.keys (loads e ++ K) (turned c v.keys took e x) (λ i. may_show_by c i v w took e (m i)) (steps_by took e n)
      pub alike :
          (i : ℕ) → i < reach → Untouched took e i → Unformatted took e
          → plain c (reaching took e reach) (sectors w) (turned c v.keys took e x) i ≡ plain c reach (sectors v) x i

    -- a load
    loads_more : {K : List (List ℕ)} {x : Change} {m : ℕ → List (List ℕ)} {n : ℕ} (v w : State) (ks : List (List ℕ)) → Inv c reach (sectors v) v.keys K x m n
        → ((k : List ℕ) → Among k ks → Key k) → w ≡ keyed v ks
        → Inv c reach (sectors w) w.keys (ks ++ K) x m n × ((i : ℕ) → i < reach → plain c reach (sectors w) x i ≡ plain c reach (sectors v) x i)
    loads_more {K} {x} {m} {n} v w ks inv keys is =
        let base =
        quiet c reach inv ks (ks ++ K) m (λ k h. among_right k ks K h)
        (λ k h. ⊎_elim (λ a. keys k a) (λ a. inv.proper k a) (among_either k ks K h)) (λ k h. among_left k ks K h) (λ i y h. h) in
        (subst (λ (u : State). Inv c reach (sectors u) u.keys (ks ++ K) x m n) (sym is) base, λ i h. ap (λ u. plain c reach (sectors u) x i) is)

    -- a write whose put took effect
    writes : {K : List (List ℕ)} {x : Change} {m : ℕ → List (List ℕ)} {n : ℕ} (v w : State) (j : ℕ) (b : List ℕ) (m' : ℕ → List (List ℕ))
        → Inv c reach (sectors v) v.keys K x m n → Distinct c K
        → length b ≡ 520 → Bytes (length b) b → j < counted c v
        → sectors w ≡ set (sectors v) (place v (trailer v).reach j) (sealed c (key_at c v j) j b) → w.keys ≡ v.keys
        → Among b (m' j) → ((i : ℕ) → i ≢ j → (y : List ℕ) → Among y (m i) → Among y (m' i))
        → Inv c reach (sectors w) w.keys K x m' n × ((i : ℕ) → i < reach → i ≢ j → plain c reach (sectors w) x i ≡ plain c reach (sectors v) x i)
    writes {K} {x} {m} {n} v w j b m' inv d long bs below is keys here there =
        let k = key_at c v j in
        let within = below_count c v j below in
        let found = key_at_is c v j within.fit in
        let lt : j < reach = omega (arith, within.less, inv.reaches) in
        let is' : sectors w ≡ set (sectors v) (last v.store - reach + j) (sealed c k j b) =
        is ∙ ap (λ r. set (sectors v) (last v.store - r + j) (sealed c k j b)) inv.reaches in
        let a =
        written c reach p j k b m' (sectors w) inv d lt (inv.loaded k found.0) found.1
        (subst (λ (n : ℕ). Bytes n b) long bs) is' here there in
        (rekeyed keys a.0, a.1)

    -- a begin whose put took effect
    begins_so : {K : List (List ℕ)} {m : ℕ → List (List ℕ)} {n : ℕ} (x : Change) (v w : State) → Inv c reach (sectors v) v.keys K x m n
        → (trailer v).stage ≡ Resting → is_some (another c v) ≡ true
        → sectors w ≡ set (sectors v) (last v.store) (encode c.number (trailers.begun (trailer v) (check c (unwrap_or (another c v) [])))) → w.keys ≡ v.keys
        → Inv c reach (sectors w) w.keys K (begins c v.keys x) m 0
        × ((i : ℕ) → i < reach → plain c reach (sectors w) (begins c v.keys x) i ≡ plain c reach (sectors v) x i)
    begins_so (runs old new u) v w inv rest found is keys = absurd (one_stage rest inv.agrees.0)
    begins_so {K} {m} {n} (rests k) v w inv rest found is keys =
        let t = trailer v in
        let new = unwrap_or (another c v) [] in
        let new' = unwrap_or (other c (check c k) v.keys) [] in
        let agree : new ≡ new' = ap (λ y. unwrap_or (other c y v.keys) []) inv.agrees.1 in
        let o = other_is c t.first v.keys found in
        let known = inv.loaded new o.0 in
        let g = ranged c reach inv in
        let a =
        marked c reach p (sectors w) (trailers.begun t (check c new)) (runs k new' 0) 0 inv
        (record { reach = g.reach; watermark = omega arith; first = g.first; second = check_bytes c p new (inv.proper new known); label = g.label })
        inv.reaches (omega arith, λ e. o.1 (sym e))
        (refl, inv.agrees.1, ap (λ y. check c y) agree, refl, inv.agrees.2, subst (λ (y : List ℕ). Among y K) agree known)
        (omega arith)
        (λ i h. rw (le-ltb i 0 (omega arith)))
        is in
        (rekeyed keys a.0, a.1)

    -- a finish whose put took effect
    ends_so : {K : List (List ℕ)} {m : ℕ → List (List ℕ)} {n : ℕ} (x : Change) (v w : State) → Inv c reach (sectors v) v.keys K x m n
        → (trailer v).stage ≡ Changing → (trailer v).reach ≤ (trailer v).watermark
        → sectors w ≡ set (sectors v) (last v.store) (encode c.number (trailers.finished (trailer v))) → w.keys ≡ v.keys
        → Inv c reach (sectors w) w.keys K (ends x) m 0
        × ((i : ℕ) → i < reach → plain c reach (sectors w) (ends x) i ≡ plain c reach (sectors v) x i)
    ends_so (rests k) v w inv runs-now full is keys = absurd (one_stage inv.agrees.0 runs-now)
    ends_so {K} {m} {n} (runs old new u) v w inv runs-now full is keys =
        let t = trailer v in
        let g = ranged c reach inv in
        let a =
        marked c reach p (sectors w) (trailers.finished t) (rests new) 0 inv
        (record { reach = g.reach; watermark = omega arith; first = g.second; second = zeros; label = g.label })
        inv.reaches (refl, refl)
        (refl, inv.agrees.2, inv.agrees.5)
        (omega arith)
        (λ i h. rw (lt-ltb i u (omega (arith, inv.reaches, inv.agrees.3, full))))
        is in
        (rekeyed keys a.0, a.1)

    -- a step whose put took effect
    steps_so : {K : List (List ℕ)} {m : ℕ → List (List ℕ)} {n : ℕ} (n' : ℕ) (x : Change) (v w : State) → Inv c reach (sectors v) v.keys K x m n → Distinct c K
        → fit c v ≡ true → (trailer v).stage ≡ Changing → (trailer v).watermark < (trailer v).reach → n' ≤ n + 1
        → sectors w
        ≡ set (set (sectors v) (place v (trailer v).reach (trailer v).watermark) (renewed c v)) (last v.store) (encode c.number (trailers.moved (trailer v)))
        → w.keys ≡ v.keys
        → Inv c reach (sectors w) w.keys K (goes_on x) m n'
        × ((i : ℕ) → i < reach → plain c reach (sectors w) (goes_on x) i ≡ plain c reach (sectors v) x i)
    steps_so n' (rests k) v w inv d fits runs-now lt few is keys = absurd (one_stage inv.agrees.0 runs-now)
    steps_so {K} {m} {n} n' (runs old new u) v w inv d fits runs-now lt few is keys =
        let t = trailer v in
        let g = ranged c reach inv in
        let at-u : t.watermark ≡ u = inv.agrees.3 in
        let st : Staged Changing t = subst (λ (s : Stage). Staged s t) runs-now (staged c reach inv) in
        let a = having_is c t.first v.keys (fit_first c v fits) in
        let b = having_is c t.second v.keys (fit_second c v fits runs-now) in
        let from : key_of c v t.first ≡ old = d _ _ (inv.loaded _ a.0) inv.agrees.4 (a.1 ∙ inv.agrees.1) in
        let to : key_of c v t.second ≡ new = d _ _ (inv.loaded _ b.0) inv.agrees.5 (b.1 ∙ inv.agrees.2) in
        let ss = sectors v in
        let ss₁ = set ss (place v t.reach t.watermark) (renewed c v) in
        let puts : ss₁ ≡ set ss (length ss - 1 - reach + u) (sealed c new u (opened c old u (get_or ss (length ss - 1 - reach + u) []))) =
        let e₁ = inv.reaches in cc (e₁, at-u, from, to) in
        let r =
        moved_on c reach p old new u ss₁ (sectors w) (trailers.moved t) n' inv
        (record { reach = g.reach; watermark = omega (arith, g.reach); first = g.first; second = g.second; label = g.label })
        inv.reaches (omega (arith, lt), st.1)
        (refl, inv.agrees.1, inv.agrees.2, ap (λ z. z + 1) at-u, inv.agrees.4, inv.agrees.5)
        (omega (arith, inv.steps)) (omega (arith, inv.reaches)) puts is in
        (rekeyed keys r.0, r.1)

    -- an event that is no write and no format
    plainly : {v w : State} {took : Bool} {e : Entry} {K : List (List ℕ)} {x : Change} {m : ℕ → List (List ℕ)} {n : ℕ}
        → Inv c (reaching took e reach) (sectors w) w.keys (loads e ++ K) (turned c v.keys took e x) (λ i. may_show_by c i v w took e (m i)) (steps_by took e n)
        × ((i : ℕ) → i < reach → plain c (reaching took e reach) (sectors w) (turned c v.keys took e x) i ≡ plain c reach (sectors v) x i)
        → After v w took e K x m n
    plainly s = record { inv = s.0; alike = λ i h _ _. s.1 i h }

    pub turn : {K : List (List ℕ)} {m : ℕ → List (List ℕ)} {n : ℕ} (v w : State) (took : Bool) (e : Entry) (x : Change) → Inv c reach (sectors v) v.keys K x m n → Distinct c K
        → Given e → Does c v e took w → After v w took e K x m n
    turn v w took (powered_up (Ok u)) x inv d g r =
        plainly (still v w inv (record { sectors = ap sectors r; keys = ap (λ u. u.keys) r }))
    turn v w took (powered_up (Err f)) x inv d g r =
        plainly (still v w inv (record { sectors = ap sectors r.1; keys = ap (λ u. u.keys) r.1 }))
    turn v w took (entries.counted (Ok a)) x inv d g r =
        plainly (still v w inv (same v w r.1.1))
    turn v w took (entries.counted (Err f)) x inv d g r =
        plainly (still v w inv (calm v w r))
    turn v w took (loaded ks (Ok u)) x inv d g r =
        plainly (loads_more v w ks inv (loaded_keys ks r.0.1.0 g) r.1)
    turn v w took (loaded ks (Err f)) x inv d g r =
        plainly (still v w inv (same v w r.1))
    turn {K} v w true (formatted n label r) x inv d g does =
        let f = as_format n label r v w does in
        let a = formats n label v w K f (record { few = inv.few; each = inv.each }) g inv.proper inv.loaded in
        record {
          inv =
              subst (λ (k : List ℕ). Inv c n (sectors w) w.keys K (rests k) (λ i. shown_at_first c n w i ∷ []) 0) (ap first_key f.keys) a;
          alike = λ i h _ un. absurd (un (n, label, r, refl, refl));
        }
    turn v w false (formatted n label (Ok u)) x inv d g r = absurd r
    turn v w false (formatted n label (Err f)) x inv d g r =
        plainly (still v w inv (calm v w r))
    turn v w took (read j size (Ok b)) x inv d g r =
        plainly (still v w inv (same v w r.1.1))
    turn v w took (read j size (Err f)) x inv d g r =
        plainly (still v w inv (calm v w r))
    turn {K} {m} {n} v w true (wrote j b (Ok u)) x inv d g r =
        let s =
        writes v w j b (λ i. may_show_by c i v w true (wrote j b (Ok u)) (m i)) inv d r.0.0.0 g r.0.2.0 (ap sectors r.2) (ap (λ u. u.keys) r.2)
        (rw (eq-eqb j j refl) (inl refl)) (λ i off y h. rw (ne_eqb i j off) h) in
        record { inv = s.0; alike = λ i h un _. s.1 i h (λ q. un (b, Ok u, ap (λ z. wrote z b (Ok u)) (sym q), refl)) }
    turn {K} {m} {n} v w true (wrote j b (Err f)) x inv d g r =
        let lost : loses v w ≡ true = ap (λ z. z && not w.store.power) r.0.1 ∙ ap (λ u. not u.store.power) r.2 in
        let s =
        writes v w j b (λ i. may_show_by c i v w true (wrote j b (Err f)) (m i)) inv d r.0.0.0 g r.0.2.0 (ap sectors r.2) (ap (λ u. u.keys) r.2)
        (rw (eq-eqb j j refl, lost) (inl refl)) (λ i off y h. widen (eqb i j && loses v w) b y (m i) h) in
        record { inv = s.0; alike = λ i h un _. s.1 i h (λ q. un (b, Err f, ap (λ z. wrote z b (Err f)) (sym q), refl)) }
    turn v w false (wrote j b (Ok u)) x inv d g r = absurd r
    turn {K} {m} {n} v w false (wrote j b (Err f)) x inv d g r =
        let s = still v w inv (calm v w r) in
        record {
          inv =
              quiet c reach s.0 w.keys K (λ i. may_show_by c i v w false (wrote j b (Err f)) (m i)) (λ k h. h) s.0.proper s.0.loaded
              (λ i y h. widen (eqb i j && loses v w) b y (m i) h);
          alike = λ i h _ _. s.1 i h;
        }
    turn v w took (claimed (Ok b)) x inv d g r =
        plainly (still v w inv (record { sectors = ap sectors r.1.1; keys = ap (λ u. u.keys) r.1.1 }))
    turn v w took (claimed (Err f)) x inv d g r =
        plainly (still v w inv (calm v w r))
    turn v w true (began (Ok u)) x inv d g r =
        let l = r.0.2 in
        let rest = l.1.1.1.0 in
        plainly (begins_so x v w inv rest (l.1.1.0 rest) (ap sectors r.2) (ap (λ u. u.keys) r.2))
    turn v w true (began (Err f)) x inv d g r =
        let l = r.0.2 in
        let rest = l.1.1.1.0 in
        plainly (begins_so x v w inv rest (l.1.1.0 rest) (ap sectors r.2) (ap (λ u. u.keys) r.2))
    turn v w false (began (Ok u)) x inv d g r = absurd r
    turn v w false (began (Err f)) x inv d g r =
        plainly (still v w inv (calm v w r))
    turn {K} {m} {n} v w true (stepped size (Ok a)) x inv d g r =
        let l = r.0.2 in
        plainly (steps_so (n + 1) x v w inv d l.1.0 l.1.1.0 (omega (arith, l.1.1.1.0)) (omega arith) (ap sectors r.2) (ap (λ u. u.keys) r.2))
    turn {K} {m} {n} v w true (stepped size (Err f)) x inv d g r =
        let l = r.0.2 in
        plainly (steps_so n x v w inv d l.1.0 l.1.1.0 (omega (arith, l.1.1.1.0)) (omega arith) (ap sectors r.2) (ap (λ u. u.keys) r.2))
    turn v w false (stepped size (Ok a)) x inv d g r = absurd r
    turn v w false (stepped size (Err f)) x inv d g r =
        plainly (still v w inv (calm v w r))
    turn v w true (finished (Ok u)) x inv d g r =
        let l = r.0.2 in
        plainly (ends_so x v w inv l.1.1.0 (omega (arith, l.1.1.1.0)) (ap sectors r.2) (ap (λ u. u.keys) r.2))
    turn v w true (finished (Err f)) x inv d g r =
        let l = r.0.2 in
        plainly (ends_so x v w inv l.1.1.0 (omega (arith, l.1.1.1.0)) (ap sectors r.2) (ap (λ u. u.keys) r.2))
    turn v w false (finished (Ok u)) x inv d g r = absurd r
    turn v w false (finished (Err f)) x inv d g r =
        plainly (still v w inv (calm v w r))
    turn v w took handed_in x inv d g r =
        plainly (still v w inv (record { sectors = ap sectors r; keys = ap (λ u. u.keys) r }))
