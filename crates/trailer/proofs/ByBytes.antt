-- A valid sector, byte by byte.
use Rattle.std.proofs.Common.{◌≡◌, ℕ, zero, suc, ◌+◌, ◌<◌, ◌≤◌, Bool, true, false, cond, not, ◌&&◌, eqb, leb, ◌⊎◌, List, [], ◌∷◌, length, get_or, take, drop, sym, refl, ◌∙◌, subst, inl, inr, ⊎_elim, le_of_suc-le-suc, arith}
use Rattle.std.specs.Str.{bytes_eq}
use Rattle.std.proofs.lemmas.Slice.Eq.{bytes_eq-Decides}
use Rattle.std.proofs.lemmas.List.{get_or-take, get_or-drop}
use Rattle.std.proofs.lemmas.Bool.{and_parts, and_from, eq-eqb, eqb-true, le-leb, leb-true, false≢true}
use Rattle.std.proofs.lemmas.Bool.Decides.{Decides-not}
use Rattle.octets.specs.Little.{Bytes, le_number, all_are}
use Rattle.trailer.specs.Trailers.{decode, field, framed, staged, valid}
use Rattle.trailer.specs.Theorems.{Zero, Rests, Changes, Valid, ValidityByBytes}
use Rattle.trailer.proofs.Fields.{field_bytes, valid_from}

get_or_field : (from n : ℕ) (s : List ℕ) (k : ℕ) → k < n → get_or (field from n s) k 0 ≡ get_or s (from + k) 0
get_or_field from n s k h = get_or-take n (drop from s) k 0 h ∙ get_or-drop from s k 0

each_is : (v : ℕ) (xs : List ℕ) → all_are v xs ≡ true → (k : ℕ) → k < length xs → get_or xs k 0 ≡ v
each_is v [] h k l = absurd (omega arith)
each_is v (x ∷ xs) h zero l = eqb-true x v (and_parts (eqb x v) (all_are v xs) h).0
each_is v (x ∷ xs) h (suc k) l = each_is v xs (and_parts (eqb x v) (all_are v xs) h).1 k (le_of_suc-le-suc l)

all_from : (v : ℕ) (xs : List ℕ) → ((k : ℕ) → k < length xs → get_or xs k 0 ≡ v) → all_are v xs ≡ true
all_from v [] h = refl
all_from v (x ∷ xs) h = and_from (eqb x v) (all_are v xs) (eq-eqb x v (h 0 (omega arith))) (all_from v xs (λ k l. h (suc k) (omega arith)))

zero_in : (from n : ℕ) (s : List ℕ) → length (field from n s) ≡ n → all_are 0 (field from n s) ≡ true → Zero from n s
zero_in from n s l h k i = sym (get_or_field from n s k i) ∙ each_is 0 (field from n s) h k (omega arith)

zero_from : (from n : ℕ) (s : List ℕ) → length (field from n s) ≡ n → Zero from n s → all_are 0 (field from n s) ≡ true
zero_from from n s l h = all_from 0 (field from n s) (λ k i. let j : k < n = omega arith in get_or_field from n s k j ∙ h k j)

module _ (s : List ℕ) (b : Bytes 520 s) where
  long : (from n : ℕ) → from + n ≤ 520 → length (field from n s) ≡ n
  long from n h = (field_bytes from n s h b).0

  rule_in : (p q : Bool) → eqb (get_or s 457 0) 0 ≡ p → eqb (get_or s 457 0) 1 ≡ q
      → cond p (eqb (le_number (field 464 4 s)) 0 && all_are 0 (field 488 16 s)) (q && (leb (le_number (field 464 4 s)) (le_number (field 460 4 s)) && not (bytes_eq (field 472 16 s) (field 488 16 s)))) ≡ true
      → Rests s ⊎ Changes s
  rule_in true q e d h =
      let p = and_parts (eqb (le_number (field 464 4 s)) 0) (all_are 0 (field 488 16 s)) h in
      inl (eqb-true (get_or s 457 0) 0 e, eqb-true (le_number (field 464 4 s)) 0 p.0, zero_in 488 16 s (long 488 16 (omega arith)) p.1)
  rule_in false true e d h =
      let p = and_parts (leb (le_number (field 464 4 s)) (le_number (field 460 4 s))) (not (bytes_eq (field 472 16 s) (field 488 16 s))) h in
      inr (eqb-true (get_or s 457 0) 1 d, leb-true (le_number (field 464 4 s)) (le_number (field 460 4 s)) p.0, (Decides-not (bytes_eq (field 472 16 s) (field 488 16 s)) (bytes_eq-Decides (field 472 16 s) (field 488 16 s))).0 p.1)
  rule_in false false e d h = absurd (false≢true h)

  rule_rests : Rests s → staged 0 (decode s) ≡ true
  unfolding decode
  rule_rests h =
      and_from (eqb (le_number (field 464 4 s)) 0) (all_are 0 (field 488 16 s)) (eq-eqb (le_number (field 464 4 s)) 0 h.1)
      (zero_from 488 16 s (long 488 16 (omega arith)) h.2)

  rule_changes : Changes s → staged 1 (decode s) ≡ true
  unfolding decode
  rule_changes h =
      and_from (leb (le_number (field 464 4 s)) (le_number (field 460 4 s))) (not (bytes_eq (field 472 16 s) (field 488 16 s))) (le-leb (le_number (field 464 4 s)) (le_number (field 460 4 s)) h.1)
      ((Decides-not (bytes_eq (field 472 16 s) (field 488 16 s)) (bytes_eq-Decides (field 472 16 s) (field 488 16 s))).1 h.2)

  rule_from : Rests s ⊎ Changes s → staged (get_or s 457 0) (decode s) ≡ true
  rule_from h =
      ⊎_elim
      (λ (r : Rests s). subst (λ (x : ℕ). staged x (decode s) ≡ true) (sym r.0) (rule_rests r))
      (λ (r : Changes s). subst (λ (x : ℕ). staged x (decode s) ≡ true) (sym r.0) (rule_changes r))
      h

  module _ (n T : ℕ) where
    forward : valid n T s ≡ true → Valid n T s
    unfolding valid decode
    forward h =
        let reach = le_number (field 460 4 s) in
        let rule = staged (get_or s 457 0) (decode s) in
        let gap = all_are 0 (field 468 4 s) in
        let form = eqb (get_or s 458 0) 1 in
        let high = eqb (get_or s 459 0) 0 in
        let number = eqb (get_or s 456 0) n in
        let p = and_parts (framed n s) (leb 1 reach && (leb reach T && rule)) h in
        let q = and_parts (leb 1 reach) (leb reach T && rule) p.1 in
        let r = and_parts (leb reach T) rule q.1 in
        let within = leb-true reach T r.0 in
        let a = and_parts (all_are 0 (take 456 s)) (number && (form && (high && gap))) p.0 in
        let c = and_parts number (form && (high && gap)) a.1 in
        let d = and_parts form (high && gap) c.1 in
        let e = and_parts high gap d.1 in
        record {
          numbered = eqb-true (get_or s 456 0) n c.0;
          form = (eqb-true (get_or s 458 0) 1 d.0, eqb-true (get_or s 459 0) 0 e.0);
          front = zero_in 0 456 s (long 0 456 (omega arith)) a.0;
          gap = zero_in 468 4 s (long 468 4 (omega arith)) e.1;
          some = leb-true 1 reach q.0;
          room = omega arith;
          stage = rule_in (eqb (get_or s 457 0) 0) (eqb (get_or s 457 0) 1) refl refl r.1;
        }

    back : Valid n T s → valid n T s ≡ true
    unfolding decode
    back v =
        let gap = all_are 0 (field 468 4 s) in
        let form = eqb (get_or s 458 0) 1 in
        let high = eqb (get_or s 459 0) 0 in
        let number = eqb (get_or s 456 0) n in
        let framed-so : framed n s ≡ true =
        and_from (all_are 0 (take 456 s)) (number && (form && (high && gap))) (zero_from 0 456 s (long 0 456 (omega arith)) v.front)
        (and_from number (form && (high && gap)) (eq-eqb (get_or s 456 0) n v.numbered)
        (and_from form (high && gap) (eq-eqb (get_or s 458 0) 1 v.form.0)
        (and_from high gap (eq-eqb (get_or s 459 0) 0 v.form.1) (zero_from 468 4 s (long 468 4 (omega arith)) v.gap)))) in
        valid_from n T s framed-so v.some v.room (rule_from v.stage)

pub validity_by_bytes : ValidityByBytes
validity_by_bytes n T s b = (forward s b n T, back s b n T)
