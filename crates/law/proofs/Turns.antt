-- What every event keeps.
use Rattle.std.proofs.Common.{◌≡◌, ℕ, ◌+◌, ◌-◌, ◌^◌, ◌<◌, ◌≤◌, true, false, ltb, ◌≢◌, List, [], length, get_or, set, sym, ap, ◌∙◌, subst, ⊎_elim, arith, length-set, get_or-set_other, get_or-set_same}
use Rattle.std.proofs.lemmas.Bool.{cases_eq, cases_lt, cases_Bool, lt-ltb, le-ltb}
use Rattle.card.specs.Meaning.{Sector}
use Rattle.trailer.specs.declared.stage.Stage.{Stage}
use Rattle.trailer.specs.declared.stage.Stage.TheVariants.{Resting, Changing}
use Rattle.trailer.specs.Trailers.{Fields, encode, decode, valid, named, named_by}
use Rattle.trailer.proofs.Fields.{Ranged, Staged, decode_encode, encode_sector, decode_ranged, valid_new, valid_says}
use Rattle.law.specs.Suites.{Suite, Proper, check, sealed, opened}
use Rattle.law.specs.States.{Among}
use Rattle.law.specs.Runs.{Change, rests, runs, key_under}
use Rattle.law.specs.Law.{Distinct}
use Rattle.law.proofs.Sealing.{Key, sealed_sector, opened_sector, opened_sealed}

-- the fields of a store's last sector
abbrev pub last_fields : List (List ℕ) → Fields
last_fields ss = decode (get_or ss (length ss - 1) [])

abbrev pub watermark_of : Change → ℕ
watermark_of (rests k) = 0
watermark_of (runs old new w) = w

-- the trailer says what the history says of the change, and its keys are among those of the list
abbrev pub Agrees : Suite → List (List ℕ) → Change → Fields → Type 0
Agrees c K (rests k) t = (t.stage ≡ Resting) × (t.first ≡ check c k) × Among k K
Agrees c K (runs old new w) t =
    (t.stage ≡ Changing) × (t.first ≡ check c old) × (t.second ≡ check c new) × (t.watermark ≡ w) × Among old K × Among new K

pub named_is : (c : Suite) (K : List (List ℕ)) (x : Change) (t : Fields) (i : ℕ) → Agrees c K x t → named t i ≡ check c (key_under x i)
named_is c K (rests k) t i a = ap (λ (s : Stage). named_by s t i) a.0 ∙ a.1
named_is c K (runs old new w) t i a =
    ap (λ (s : Stage). named_by s t i) a.0
    ∙ ⊎_elim
    (λ (l : ltb i w ≡ true). rw (a.3, l) a.2)
    (λ (l : ltb i w ≡ false). rw (a.3, l) a.1)
    (cases_Bool (ltb i w))

pub known_is : (c : Suite) (K : List (List ℕ)) (x : Change) (t : Fields) (i : ℕ) → Agrees c K x t → Among (key_under x i) K
known_is c K (rests k) t i a = a.2
known_is c K (runs old new w) t i a =
    ⊎_elim
    (λ (l : ltb i w ≡ true). rw l a.5)
    (λ (l : ltb i w ≡ false). rw l a.4)
    (cases_Bool (ltb i w))

module _ (c : Suite) (reach : ℕ) where
  -- what data sector i shows
  abbrev pub plain : List (List ℕ) → Change → ℕ → List ℕ
  plain ss x i = opened c (key_under x i) i (get_or ss (length ss - 1 - reach + i) [])

  -- of the sectors, the loaded keys, the keys ever loaded, the change, what each sector may show, and the done steps
  pub record Inv (ss ks K : List (List ℕ)) (x : Change) (m : ℕ → List (List ℕ)) (n : ℕ) : Type 0 where
    pub few : length ss < 2 ^ 32
    pub each : (j : ℕ) → j < length ss → Sector (get_or ss j [])
    pub proper : (k : List ℕ) → Among k K → Key k
    pub loaded : (k : List ℕ) → Among k ks → Among k K
    -- there is a trailer
    pub some : 1 ≤ reach
    pub room : reach ≤ length ss - 1
    pub valid : valid c.number (length ss - 1) (get_or ss (length ss - 1) []) ≡ true
    pub reaches : (last_fields ss).reach ≡ reach
    pub agrees : Agrees c K x (last_fields ss)
    pub shows : (i : ℕ) → i < reach → Among (plain ss x i) (m i)
    pub steps : n ≤ watermark_of x

  module _ {ss ks K : List (List ℕ)} {x : Change} {m : ℕ → List (List ℕ)} {n : ℕ} (inv : Inv ss ks K x m n) where
    sector : Sector (get_or ss (length ss - 1) [])
    sector = let h = inv.some in let r = inv.room in inv.each (length ss - 1) (omega arith)

    pub ranged : Ranged (last_fields ss)
    ranged = decode_ranged (get_or ss (length ss - 1) []) sector

    pub staged : Staged (last_fields ss).stage (last_fields ss)
    staged = (valid_says c.number (length ss - 1) (get_or ss (length ss - 1) []) sector inv.valid).stage

    -- keys more, and more that may be shown
    pub quiet : (ks' K' : List (List ℕ)) (m' : ℕ → List (List ℕ)) → ((k : List ℕ) → Among k K → Among k K') → ((k : List ℕ) → Among k K' → Key k)
        → ((k : List ℕ) → Among k ks' → Among k K') → ((i : ℕ) (y : List ℕ) → Among y (m i) → Among y (m' i)) → Inv ss ks' K' x m' n
    quiet ks' K' m' more proper loaded wide = record {
      few = inv.few;
      each = inv.each;
      proper = proper;
      loaded = loaded;
      some = inv.some;
      room = inv.room;
      valid = inv.valid;
      reaches = inv.reaches;
      agrees = agree_more x inv.agrees;
      shows = λ j h. wide j _ (inv.shows j h);
      steps = inv.steps;
    }
      where
        agree_more : (x : Change) → Agrees c K x (last_fields ss) → Agrees c K' x (last_fields ss)
        agree_more (rests k) a = (a.0, a.1, more k a.2)
        agree_more (runs old new w) a = (a.0, a.1, a.2, a.3, more old a.4, more new a.5)

  module _ (p : Proper c) where
    -- data sector j has b, under the key that it lies under
    pub written : {ss ks K : List (List ℕ)} {x : Change} {m : ℕ → List (List ℕ)} {n : ℕ} (j : ℕ) (k b : List ℕ) (m' : ℕ → List (List ℕ)) (ss' : List (List ℕ))
        → Inv ss ks K x m n → Distinct c K → j < reach → Among k K → check c k ≡ named (last_fields ss) j → Sector b
        → ss' ≡ set ss (length ss - 1 - reach + j) (sealed c k j b)
        → Among b (m' j) → ((i : ℕ) → i ≢ j → (y : List ℕ) → Among y (m i) → Among y (m' i))
        → Inv ss' ks K x m' n × ((i : ℕ) → i < reach → i ≢ j → plain ss' x i ≡ plain ss x i)
    written {ss} {ks} {K} {x} {m} {n} j k b m' ss' inv d lt known lies sec is here there =
        let T = length ss - 1 in
        let at = T - reach + j in
        let some = inv.some in
        let room = inv.room in
        let y = sealed c k j b in
        let long : length ss' ≡ length ss = ap length is ∙ length-set ss at y in
        let key : k ≡ key_under x j =
        d k (key_under x j) known (known_is c K x (last_fields ss) j inv.agrees) (lies ∙ named_is c K x (last_fields ss) j inv.agrees) in
        let elsewhere : (q : ℕ) → q ≢ at → get_or ss' q [] ≡ get_or ss q [] = λ q ne. ap (λ zs. get_or zs q []) is ∙ get_or-set_other ss at q y [] ne in
        let ne : T ≢ at = omega arith in
        let last : get_or ss' (length ss' - 1) [] ≡ get_or ss T [] = ap (λ l. get_or ss' (l - 1) []) long ∙ elsewhere T ne in
        let there' : get_or ss' at [] ≡ y = ap (λ zs. get_or zs at []) is ∙ get_or-set_same ss at y [] (omega arith) in
        let other : (i : ℕ) → i < reach → i ≢ j → plain ss' x i ≡ plain ss x i =
        λ i h off.
        ap (λ l. opened c (key_under x i) i (get_or ss' (l - 1 - reach + i) [])) long
        ∙ ap (λ s. opened c (key_under x i) i s) (elsewhere (T - reach + i) (omega arith)) in
        let mine : plain ss' x j ≡ b =
        ap (λ l. opened c (key_under x j) j (get_or ss' (l - 1 - reach + j) [])) long
        ∙ ap (λ s. opened c (key_under x j) j s) there' ∙ ap (λ h. opened c h j y) (sym key)
        ∙ opened_sealed c p k j b (inv.proper k known) sec in (
          record {
            few = rw long inv.few;
            each = λ q h.
                ⊎_elim
                (λ (e : q ≡ at). subst (λ (s : List ℕ). Sector s) (sym (ap (λ z. get_or ss' z []) e ∙ there')) (sealed_sector c p k j b (inv.proper k known) sec))
                (λ (off : q ≡ at → ⊥). subst (λ (s : List ℕ). Sector s) (sym (elsewhere q off)) (inv.each q (omega (arith, long))))
                (cases_eq q at);
            proper = inv.proper;
            loaded = inv.loaded;
            some = some;
            room = omega (arith, long);
            valid =
                subst (λ (s : List ℕ). valid c.number (length ss' - 1) s ≡ true) (sym last)
                (subst (λ (l : ℕ). valid c.number (l - 1) (get_or ss T []) ≡ true) (sym long) inv.valid);
            reaches = rw last inv.reaches;
            agrees = rw last inv.agrees;
            shows = λ i h.
                ⊎_elim
                (λ (e : i ≡ j). subst (λ (q : ℕ). Among (plain ss' x q) (m' q)) (sym e) (subst (λ (s : List ℕ). Among s (m' j)) (sym mine) here))
                (λ (off : i ≡ j → ⊥). there i off _ (subst (λ (s : List ℕ). Among s (m i)) (sym (other i h off)) (inv.shows i h)))
                (cases_eq i j);
            steps = inv.steps;
          },
          other,
        )

    -- another trailer is put: the data sectors are as they were
    pub beside : (ss ss' : List (List ℕ)) (t : Fields) → 1 ≤ reach → reach ≤ length ss - 1 → ss' ≡ set ss (length ss - 1) (encode c.number t)
        → (x : Change) (i : ℕ) → i < reach → plain ss' x i ≡ plain ss x i
    beside ss ss' t some room is x i h =
        let T = length ss - 1 in
        let long : length ss' ≡ length ss = ap length is ∙ length-set ss T (encode c.number t) in
        let ne : T - reach + i ≢ T = omega arith in
        ap (λ l. opened c (key_under x i) i (get_or ss' (l - 1 - reach + i) [])) long
        ∙ ap (λ zs. opened c (key_under x i) i (get_or zs (T - reach + i) [])) is
        ∙ ap (λ s. opened c (key_under x i) i s) (get_or-set_other ss T (T - reach + i) (encode c.number t) [] ne)

    -- all that a put of a trailer makes
    pub made : (ss ss' ks K : List (List ℕ)) (t : Fields) (x : Change) (m : ℕ → List (List ℕ)) (n : ℕ)
        → length ss < 2 ^ 32 → ((j : ℕ) → j < length ss → Sector (get_or ss j []))
        → ((k : List ℕ) → Among k K → Key k) → ((k : List ℕ) → Among k ks → Among k K)
        → 1 ≤ reach → reach ≤ length ss - 1 → Ranged t → t.reach ≡ reach → Staged t.stage t → Agrees c K x t → n ≤ watermark_of x
        → ss' ≡ set ss (length ss - 1) (encode c.number t) → ((i : ℕ) → i < reach → Among (plain ss' x i) (m i))
        → Inv ss' ks K x m n
    made ss ss' ks K t x m n few each proper loaded some room ranged reaches stage agrees steps is shows =
        let T = length ss - 1 in
        let s = encode c.number t in
        let long : length ss' ≡ length ss = ap length is ∙ length-set ss T s in
        let within : T < length ss = omega arith in
        let here : get_or ss' T [] ≡ s = ap (λ zs. get_or zs T []) is ∙ get_or-set_same ss T s [] within in
        let last : get_or ss' (length ss' - 1) [] ≡ s = ap (λ l. get_or ss' (l - 1) []) long ∙ here in
        let says : last_fields ss' ≡ t = ap decode last ∙ decode_encode c.number t ranged in
        record {
          few = rw long few;
          each = λ q h.
              ⊎_elim
              (λ (e : q ≡ T). subst (λ (z : List ℕ). Sector z) (sym (ap (λ z. get_or ss' z []) e ∙ here)) (encode_sector c.number t p.number ranged))
              (λ (off : q ≡ T → ⊥).
              subst (λ (z : List ℕ). Sector z) (sym (ap (λ zs. get_or zs q []) is ∙ get_or-set_other ss T q s [] off)) (each q (omega (arith, long))))
              (cases_eq q T);
          proper = proper;
          loaded = loaded;
          some = some;
          room = omega (arith, long);
          valid =
              subst (λ (z : List ℕ). valid c.number (length ss' - 1) z ≡ true) (sym last)
              (valid_new c.number (length ss' - 1) t ranged (omega (arith, reaches)) (omega (arith, reaches, long)) stage);
          reaches = ap (λ u. u.reach) says ∙ reaches;
          agrees = subst (λ (u : Fields). Agrees c K x u) (sym says) agrees;
          shows = shows;
          steps = steps;
        }

    -- another trailer, and nothing else
    pub marked : {ss ks K : List (List ℕ)} {x : Change} {m : ℕ → List (List ℕ)} {n : ℕ} (ss' : List (List ℕ)) (t : Fields) (x' : Change) (n' : ℕ)
        → Inv ss ks K x m n → Ranged t → t.reach ≡ reach → Staged t.stage t → Agrees c K x' t → n' ≤ watermark_of x'
        → ((i : ℕ) → i < reach → key_under x' i ≡ key_under x i) → ss' ≡ set ss (length ss - 1) (encode c.number t)
        → Inv ss' ks K x' m n' × ((i : ℕ) → i < reach → plain ss' x' i ≡ plain ss x i)
    marked {ss} {ks} {K} {x} {m} {n} ss' t x' n' inv ranged reaches stage agrees steps keys is =
        let all : (i : ℕ) → i < reach → plain ss' x' i ≡ plain ss x i =
        λ i h.
        beside ss ss' t inv.some inv.room is x' i h
        ∙ ap (λ k. opened c k i (get_or ss (length ss - 1 - reach + i) [])) (keys i h) in (
          made ss ss' ks K t x' m n' inv.few inv.each inv.proper inv.loaded inv.some inv.room ranged reaches stage agrees steps is
              (λ i h. subst (λ (s : List ℕ). Among s (m i)) (sym (all i h)) (inv.shows i h)),
          all,
        )

    -- sector w under the new key, and the watermark past it
    pub moved_on : {ss ks K : List (List ℕ)} {m : ℕ → List (List ℕ)} {n : ℕ} (old new : List ℕ) (w : ℕ) (ss₁ ss' : List (List ℕ)) (t : Fields) (n' : ℕ)
        → Inv ss ks K (runs old new w) m n → Ranged t → t.reach ≡ reach → Staged t.stage t → Agrees c K (runs old new (w + 1)) t → n' ≤ w + 1 → w < reach
        → ss₁ ≡ set ss (length ss - 1 - reach + w) (sealed c new w (opened c old w (get_or ss (length ss - 1 - reach + w) [])))
        → ss' ≡ set ss₁ (length ss - 1) (encode c.number t)
        → Inv ss' ks K (runs old new (w + 1)) m n' × ((i : ℕ) → i < reach → plain ss' (runs old new (w + 1)) i ≡ plain ss (runs old new w) i)
    moved_on {ss} {ks} {K} {m} {n} old new w ss₁ ss' t n' inv ranged reaches stage agrees steps lt puts is =
        let some = inv.some in
        let room = inv.room in
        let T = length ss - 1 in
        let at = T - reach + w in
        let was = get_or ss at [] in
        let y = sealed c new w (opened c old w was) in
        let x' = runs old new (w + 1) in
        let within : at < length ss = omega arith in
        let old-key = inv.proper old inv.agrees.4 in
        let new-key = inv.proper new inv.agrees.5 in
        let clear = opened_sector c p old w was old-key (inv.each at within) in
        let long : length ss₁ ≡ length ss = ap length puts ∙ length-set ss at y in
        let here : get_or ss₁ at [] ≡ y = ap (λ zs. get_or zs at []) puts ∙ get_or-set_same ss at y [] within in
        let elsewhere : (q : ℕ) → q ≢ at → get_or ss₁ q [] ≡ get_or ss q [] = λ q ne. ap (λ zs. get_or zs q []) puts ∙ get_or-set_other ss at q y [] ne in
        let each : (q : ℕ) → q < length ss₁ → Sector (get_or ss₁ q []) =
        λ q h.
        ⊎_elim
        (λ (e : q ≡ at).
        subst (λ (z : List ℕ). Sector z) (sym (ap (λ z. get_or ss₁ z []) e ∙ here)) (sealed_sector c p new w (opened c old w was) new-key clear))
        (λ (off : q ≡ at → ⊥). subst (λ (z : List ℕ). Sector z) (sym (elsewhere q off)) (inv.each q (omega (arith, long))))
        (cases_eq q at) in
        let is' : ss' ≡ set ss₁ (length ss₁ - 1) (encode c.number t) = is ∙ ap (λ l. set ss₁ (l - 1) (encode c.number t)) (sym long) in
        let room₁ : reach ≤ length ss₁ - 1 = omega (arith, long) in
        let mine : opened c (key_under x' w) w (get_or ss₁ at []) ≡ opened c (key_under (runs old new w) w) w was =
        let a : key_under x' w ≡ new = rw (lt-ltb w (w + 1) (omega arith)) in
        let b : key_under (runs old new w) w ≡ old = rw (le-ltb w w (omega arith)) in
        ap (λ k. opened c k w (get_or ss₁ at [])) a ∙ ap (λ s. opened c new w s) here
        ∙ opened_sealed c p new w (opened c old w was) new-key clear ∙ ap (λ k. opened c k w was) (sym b) in
        let others : (i : ℕ) → i < reach → i ≢ w → opened c (key_under x' i) i (get_or ss₁ (T - reach + i) []) ≡ plain ss (runs old new w) i =
        λ i h off.
        let key : key_under x' i ≡ key_under (runs old new w) i =
        ⊎_elim
        (λ (l : i < w). rw (lt-ltb i w l, lt-ltb i (w + 1) (omega arith)))
        (λ (l : w ≤ i). rw (le-ltb i w l, le-ltb i (w + 1) (omega arith)))
        (cases_lt i w) in
        ap (λ k. opened c k i (get_or ss₁ (T - reach + i) [])) key
        ∙ ap (λ s. opened c (key_under (runs old new w) i) i s) (elsewhere (T - reach + i) (omega arith)) in
        let all : (i : ℕ) → i < reach → plain ss' x' i ≡ plain ss (runs old new w) i =
        λ i h.
        beside ss₁ ss' t some room₁ is' x' i h ∙ ap (λ l. opened c (key_under x' i) i (get_or ss₁ (l - 1 - reach + i) [])) long
        ∙ ⊎_elim
        (λ (e : i ≡ w).
        subst (λ (q : ℕ). opened c (key_under x' q) q (get_or ss₁ (T - reach + q) []) ≡ plain ss (runs old new w) q) (sym e) mine)
        (λ (off : i ≡ w → ⊥). others i h off)
        (cases_eq i w) in (
          made ss₁ ss' ks K t x' m n' (rw long inv.few) each inv.proper inv.loaded some room₁ ranged reaches stage agrees steps is'
              (λ i h. subst (λ (s : List ℕ). Among s (m i)) (sym (all i h)) (inv.shows i h)),
          all,
        )
