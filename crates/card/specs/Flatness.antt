-- A buffer as a card: its count, its sectors, and what writing a sector into it makes of it.
use Rattle.std.specs.Prelude.{◌≡◌, ℕ, ◌+◌, ◌-◌, ◌*◌, ◌/◌, ◌<◌, ◌≤◌, min, true, ◌⊎◌, List, [], ◌++◌, length, take, drop, slice_index_or, slice_set}
use Rattle.std.proofs.Common.{ap, ◌∙◌, sym, subst, inl, inr, length-take, length-drop, arith, rules}
use Rattle.std.proofs.Math.Seq.{paste}
use Rattle.std.proofs.lemmas.List.FromFn.{length-map-range_with_len, get_or-map-range_with_len}
use Rattle.std.proofs.lemmas.List.{same_lists, places, get_or-set_same, get_or-set_other, length-set, ext_get_or, take-append-le, take_all}
use Rattle.std.proofs.lemmas.List.Edits.{length-paste}
use Rattle.std.proofs.lemmas.Bool.{cases_eq, cases_lt}
use Rattle.octets.specs.Little.{Bytes}
use Rattle.octets.proofs.Lists.{part_bytes, rest_bytes, append_bytes}
use Rattle.card.specs.Meaning.{Meaning, Sound, count, at, put}
use Rattle.card.specs.Buffers.{flat, count_in, sector_in}

-- all of a buffer
abbrev pub AllBytes : List ℕ → Type 0
AllBytes xs = Bytes (length xs) xs

abbrev powered : List (List ℕ) → Meaning
powered xs = record { sectors = xs; power = true }

pub flat_count : (bs : List ℕ) → count (flat bs) ≡ count_in bs
flat_count bs = length-map-range_with_len (sector_in bs) 0 (count_in bs)

-- a sector written leaves the count
pub same_count : (bs cs : List ℕ) (n : ℕ) (v : List ℕ) → flat cs ≡ put (flat bs) n v → count_in cs ≡ count_in bs
same_count bs cs n v e = sym (flat_count cs) ∙ ap count e ∙ length-set (flat bs).sectors n v ∙ flat_count bs

pub flat_at : (bs : List ℕ) (n : ℕ) → n < count_in bs → at (flat bs) n ≡ sector_in bs n
flat_at bs n h = get_or-map-range_with_len (sector_in bs) 0 (count_in bs) n n [] h (omega arith)

pub flat_room : (bs : List ℕ) (n : ℕ) → n < count_in bs → n * 520 + 520 ≤ length bs
flat_room bs n h = omega arith

pub flat_sound : (bs : List ℕ) → AllBytes bs → Sound (flat bs)
flat_sound bs h = record {
  few = let e = flat_count bs in omega arith;
  each = λ n l. let k : n < count_in bs = (let e = flat_count bs in omega arith) in
      rw (flat_at bs n k) (part_bytes (n * 520) 520 (length bs) bs (flat_room bs n k) h);
}

paste_long : (bs v : List ℕ) (n : ℕ) → n * 520 + 520 ≤ length bs → length v ≡ 520 → length (paste bs (n * 520) v 520) ≡ length bs
paste_long bs v n h l = length-paste bs (n * 520) v 520 h (omega arith)

part_long : (bs : List ℕ) (a w : ℕ) → a + w ≤ length bs → length (take w (drop a bs)) ≡ w
part_long bs a w h = simp (length-take, length-drop) (omega arith)

part_same : (bs v : List ℕ) (a w : ℕ) → a + w ≤ length bs → length v ≡ w → take w (drop a (paste bs a v w)) ≡ v
part_same bs v a w h l =
    let e = length-paste bs a v w h (omega arith) in
    same_lists _ _ (part_long (paste bs a v w) a w (omega arith) ∙ sym l) (λ k d h. grind (arith, places))

part_other : (bs v : List ℕ) (a b w : ℕ) → a + w ≤ length bs → b + w ≤ length bs → length v ≡ w → (a + w ≤ b) ⊎ (b + w ≤ a) → take w (drop b (paste bs a v w)) ≡ take w (drop b bs)
part_other bs v a b w h j l ne =
    let e = length-paste bs a v w h (omega arith) in
    same_lists _ _ (part_long (paste bs a v w) b w (omega arith) ∙ sym (part_long bs b w j)) (λ k d h. grind (arith, places))

-- a sector written over makes the card with that sector
flat_put : (bs v : List ℕ) (n : ℕ) → n < count_in bs → length v ≡ 520 → flat (paste bs (n * 520) v 520) ≡ put (flat bs) n v
flat_put bs v n h l =
    let ps : List ℕ = paste bs (n * 520) v 520 in
    let room = flat_room bs n h in
    let e : length ps ≡ length bs = paste_long bs v n room l in
    let f : count_in ps ≡ count_in bs = ap (λ k. min (k / 520) 4096) e in
    let s : count (flat ps) ≡ count (flat bs) = flat_count ps ∙ f ∙ sym (flat_count bs) in
    ap powered (ext_get_or [] (flat ps).sectors (slice_set (flat bs).sectors n v) (s ∙ sym (length-set (flat bs).sectors n v))
    (λ k lt.
    let kp : k < count_in ps = omega (arith, flat_count ps) in
    let kb : k < count_in bs = omega arith in
    let nb : n < count (flat bs) = omega (arith, flat_count bs) in
    flat_at ps k kp ∙ elim (cases_eq k n) [
      | inl q ↦ subst (λ (z : ℕ). sector_in ps z ≡ slice_index_or (slice_set (flat bs).sectors n v) z []) (sym q) (part_same bs v (n * 520) 520 room l ∙ sym (get_or-set_same (flat bs).sectors n v [] nb))
      | inr q ↦ part_other bs v (n * 520) (k * 520) 520 room (flat_room bs k kb) l (elim (cases_lt k n) [ inl z ↦ inr (omega arith) | inr z ↦ inl (omega arith) ]) ∙ sym (get_or-set_other (flat bs).sectors n k v [] q ∙ flat_at bs k kb)
    ]))

-- what a Vec holds whose slice was written over
refill_same : (n : ℕ) (xs ws : List ℕ) → n ≡ length xs → length ws ≡ length xs → take n (ws ++ drop (length ws) xs) ≡ ws
refill_same n xs ws e f = search (rules, take-append-le, take_all)

pub refilled : (n : ℕ) (xs all ws v : List ℕ) (k : ℕ) → n ≡ length xs → all ≡ xs → k < count_in xs → length v ≡ 520 → ws ≡ paste all (k * 520) v 520 → take n (ws ++ drop (length ws) xs) ≡ paste xs (k * 520) v 520
refilled n xs all ws v k e s h l w =
    let p : ws ≡ paste xs (k * 520) v 520 = w ∙ ap (λ z. paste z (k * 520) v 520) s in
    refill_same n xs ws e (ap length p ∙ paste_long xs v k (flat_room xs k h) l) ∙ p

pub refilled_flat : (bs v ws : List ℕ) (n : ℕ) → n < count_in bs → length v ≡ 520 → ws ≡ paste bs (n * 520) v 520 → flat ws ≡ put (flat bs) n v
refilled_flat bs v ws n h l e = ap flat e ∙ flat_put bs v n h l

-- the bytes of a buffer that was written over
pub paste_bytes : (bs v : List ℕ) (a w : ℕ) → a + w ≤ length bs → Bytes w v → AllBytes bs → AllBytes (paste bs a v w)
paste_bytes bs v a w h hv hb =
    let rest : ℕ = length bs - (a + w) in
    let l = length-paste bs a v w h (let e = hv.0 in omega arith) in
    let whole : a + w + rest ≡ length bs = omega arith in
    subst (λ (n : ℕ). Bytes n (paste bs a v w)) (whole ∙ sym l)
    (append_bytes (a + w) rest (take a bs ++ take w v) (drop (a + w) bs)
    (append_bytes a w (take a bs) (take w v) (part_bytes 0 a (length bs) bs (omega arith) hb) (part_bytes 0 w w v (omega arith) hv))
    (rest_bytes (a + w) rest (length bs) bs (omega arith) hb))
