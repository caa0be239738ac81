-- Each step of a round keeps a state a state and is undone, and mixing goes through a sum.
use Rattle.std.specs.Prelude.{◌≡◌, ℕ, zero, suc, ◌+◌, ◌-◌, ◌*◌, ◌/◌, ◌%◌, ◌<◌, cond, List, ◌++◌, map, length, ◌==◌, bit_xor, refl}
use Rattle.std.proofs.Common.{sym, ap, ap₂, ◌∙◌, add-zero, arith}
use Rattle.std.specs.Int.Bits.{xor_zero_r, xor_zero_l}
use Rattle.std.specs.List.{AllByRecursion}
use Rattle.std.proofs.ByRecursion.{All-append, All-map, All-weaker}
use Rattle.std.proofs.lemmas.List.{length-map}
use Rattle.octets.specs.Little.{Bytes, le_bytes, xored}
use Rattle.octets.proofs.Lists.{all_of, of_all, length_xored, get_or_xored}
use Rattle.octets.proofs.Numbers.{le_bytes_bytes}
use Rattle.aes_tables.specs.Field.{sub, sub_back}
use Rattle.aes_tables.specs.Columns.{at, sum4, row_times, mix, mix_back}
use Rattle.aes_tables.proofs.Linear.{Bounded, mix_bounded, mix_back_bounded, Meet, mix_met, mix_back_met, product_row, sum4_ap, row_ap, row_xor, row_lt}
use Rattle.aes_tables.proofs.Inverses.{sub_undone, sub_redone, sub_lt, sub_back_lt, map_undone}
use Rattle.aes.specs.Aes.{sub_bytes, sub_bytes_back, shift_rows, shift_rows_back, mixed_at, mixed_by, mix_columns, mix_columns_back, four, round_key}
use Rattle.aes.specs.Parts.{listed_at, listed_bytes, is_listed}

-- the rows
shift_bytes : (s : List ℕ) → Bytes 16 s → Bytes 16 (shift_rows s)
shift_bytes s h = listed_bytes 16 _ (λ i l. h.1 (i % 4 + 4 * ((i / 4 + i % 4) % 4)) (omega arith))

shift_back_bytes : (s : List ℕ) → Bytes 16 s → Bytes 16 (shift_rows_back s)
shift_back_bytes s h = listed_bytes 16 _ (λ i l. h.1 (i % 4 + 4 * ((i / 4 + 4 - i % 4) % 4)) (omega arith))

shifted : (s : List ℕ) → length s ≡ 16 → shift_rows_back (shift_rows s) ≡ s
shifted s l = is_listed 16 (at s) s l (λ k h. refl)

shifted_back : (s : List ℕ) → length s ≡ 16 → shift_rows (shift_rows_back s) ≡ s
shifted_back s l = is_listed 16 (at s) s l (λ k h. refl)

-- the bytes
map_bytes : (f : ℕ → ℕ) → ((a : ℕ) → a < 256 → f a < 256) → (n : ℕ) (s : List ℕ) → Bytes n s → Bytes n (map f s)
map_bytes f e n s h = of_all n (map f s) (length-map s f ∙ h.0) (All-map (λ b. b < 256) f s (All-weaker (λ b. b < 256) (λ b. f b < 256) e s (all_of n s h)))

-- both: bytes substituted, then rows shifted
pub turn_bytes : (s : List ℕ) → Bytes 16 s → Bytes 16 (shift_rows (sub_bytes s))
turn_bytes s h = shift_bytes (sub_bytes s) (map_bytes sub sub_lt 16 s h)

pub turn_back_bytes : (s : List ℕ) → Bytes 16 s → Bytes 16 (sub_bytes_back (shift_rows_back s))
turn_back_bytes s h = map_bytes sub_back sub_back_lt 16 (shift_rows_back s) (shift_back_bytes s h)

pub turn_undone : (s : List ℕ) → Bytes 16 s → sub_bytes_back (shift_rows_back (shift_rows (sub_bytes s))) ≡ s
turn_undone s h = ap sub_bytes_back (shifted (sub_bytes s) (length-map s sub ∙ h.0)) ∙ map_undone sub sub_back sub_undone s (all_of 16 s h)

pub turn_redone : (s : List ℕ) → Bytes 16 s → shift_rows (sub_bytes (sub_bytes_back (shift_rows_back s))) ≡ s
turn_redone s h =
    ap shift_rows (map_undone sub_back sub sub_redone (shift_rows_back s) (all_of 16 (shift_rows_back s) (shift_back_bytes s h))) ∙ shifted_back s h.0

-- the columns
column_at : (ds s : List ℕ) (k j : ℕ) → k < 16 → j < 4
    → at (mixed_by ds s) (k / 4 * 4 + j) ≡ row_times ds j (at s (k / 4 * 4)) (at s (k / 4 * 4 + 1)) (at s (k / 4 * 4 + 2)) (at s (k / 4 * 4 + 3))
column_at ds s k j hk hj =
    let i : ℕ = k / 4 * 4 + j in
    let li : i < 16 = omega arith in
    let q : i / 4 ≡ k / 4 = omega arith in
    let r : i % 4 ≡ j = omega arith in
    listed_at 16 (mixed_at ds s) i li ∙ ap₂ (λ (c : ℕ) (r : ℕ). row_times ds r (at s (c * 4)) (at s (c * 4 + 1)) (at s (c * 4 + 2)) (at s (c * 4 + 3))) q r

one_left : (r : ℕ) (s : List ℕ) (p : ℕ) → r < 4
    → sum4 (cond (r == 0) (at s p) 0) (cond (r == 1) (at s (p + 1)) 0) (cond (r == 2) (at s (p + 2)) 0) (cond (r == 3) (at s (p + 3)) 0) ≡ at s (p + r)
one_left zero s p h = xor_zero_r (bit_xor (at s p) 0) ∙ xor_zero_r (at s p) ∙ ap (at s) (sym (add-zero p))
one_left (suc zero) s p h = xor_zero_r (bit_xor 0 (at s (p + 1))) ∙ xor_zero_l (at s (p + 1))
one_left (suc (suc zero)) s p h = xor_zero_l (bit_xor (at s (p + 2)) 0) ∙ xor_zero_r (at s (p + 2))
one_left (suc (suc (suc zero))) s p h = xor_zero_l (bit_xor 0 (at s (p + 3))) ∙ xor_zero_l (at s (p + 3))
one_left (suc (suc (suc (suc r)))) s p h = absurd (let z : ⊥ = omega arith in z)

mixed_undone : (cs ds : List ℕ) → Bounded ds → Meet cs ds → (s : List ℕ) → Bytes 16 s → mixed_by cs (mixed_by ds s) ≡ s
mixed_undone cs ds small meet s h = is_listed 16 (mixed_at cs (mixed_by ds s)) s h.0 (λ k hk.
    let p : ℕ = k / 4 * 4 in
    let r : ℕ = k % 4 in
    let hr : r < 4 = omega arith in
    let ha = h.1 p (omega arith) in
    let hb = h.1 (p + 1) (omega arith) in
    let hc = h.1 (p + 2) (omega arith) in
    let hd = h.1 (p + 3) (omega arith) in
    let e0 : at (mixed_by ds s) p ≡ row_times ds 0 (at s p) (at s (p + 1)) (at s (p + 2)) (at s (p + 3)) =
    ap (at (mixed_by ds s)) (sym (add-zero p)) ∙ column_at ds s k 0 hk (omega arith) in
    let e1 = column_at ds s k 1 hk (omega arith) in
    let e2 = column_at ds s k 2 hk (omega arith) in
    let e3 = column_at ds s k 3 hk (omega arith) in
    row_ap cs r e0 e1 e2 e3
    ∙ product_row cs ds small r (at s p) (at s (p + 1)) (at s (p + 2)) (at s (p + 3)) ha hb hc hd
    ∙ sum4_ap (meet r 0 (at s p) hr (omega arith) ha) (meet r 1 (at s (p + 1)) hr (omega arith) hb) (meet r 2 (at s (p + 2)) hr (omega arith) hc) (meet r 3 (at s (p + 3)) hr (omega arith) hd)
    ∙ one_left r s p hr ∙ ap (at s) (let z : p + r ≡ k = omega arith in z))

pub mixed_bytes : (ds : List ℕ) → Bounded ds → (s : List ℕ) → Bytes 16 s → Bytes 16 (mixed_by ds s)
mixed_bytes ds small s h = listed_bytes 16 (mixed_at ds s) (λ i l.
    let p : ℕ = i / 4 * 4 in
    row_lt ds small (i % 4) (at s p) (at s (p + 1)) (at s (p + 2)) (at s (p + 3)) (h.1 p (omega arith)) (h.1 (p + 1) (omega arith)) (h.1 (p + 2) (omega arith)) (h.1 (p + 3) (omega arith)))

pub mix_undone : (s : List ℕ) → Bytes 16 s → mix_columns_back (mix_columns s) ≡ s
mix_undone = mixed_undone mix_back mix mix_bounded mix_met

pub mix_redone : (s : List ℕ) → Bytes 16 s → mix_columns (mix_columns_back s) ≡ s
mix_redone = mixed_undone mix mix_back mix_back_bounded mix_back_met

pub mixed_xor : (cs s t : List ℕ) → Bounded cs → Bytes 16 s → Bytes 16 t → mixed_by cs (xored s t) ≡ xored (mixed_by cs s) (mixed_by cs t)
mixed_xor cs s t small hs ht =
    let ms = mixed_bytes cs small s hs in
    let mt = mixed_bytes cs small t ht in
    let long : length s ≡ length t = hs.0 ∙ sym ht.0 in
    let alike : length (mixed_by cs s) ≡ length (mixed_by cs t) = ms.0 ∙ sym mt.0 in
    is_listed 16 (mixed_at cs (xored s t)) (xored (mixed_by cs s) (mixed_by cs t)) (length_xored (mixed_by cs s) (mixed_by cs t) alike ∙ ms.0) (λ k hk.
    let p : ℕ = k / 4 * 4 in
    let here : (j : ℕ) → j < 16 → at (xored s t) j ≡ bit_xor (at s j) (at t j) = λ j h. let e = hs.0 in get_or_xored s t j long (omega arith) in
    let lk : k < length (mixed_by cs s) = let e = ms.0 in omega arith in
    row_ap cs (k % 4) (here p (omega arith)) (here (p + 1) (omega arith)) (here (p + 2) (omega arith)) (here (p + 3) (omega arith))
    ∙ row_xor cs (k % 4) (at s p) (at s (p + 1)) (at s (p + 2)) (at s (p + 3)) (at t p) (at t (p + 1)) (at t (p + 2)) (at t (p + 3))
    (hs.1 p (omega arith)) (hs.1 (p + 1) (omega arith)) (hs.1 (p + 2) (omega arith)) (hs.1 (p + 3) (omega arith))
    (ht.1 p (omega arith)) (ht.1 (p + 1) (omega arith)) (ht.1 (p + 2) (omega arith)) (ht.1 (p + 3) (omega arith))
    ∙ sym (get_or_xored (mixed_by cs s) (mixed_by cs t) k alike lk ∙ ap₂ bit_xor (listed_at 16 (mixed_at cs s) k hk) (listed_at 16 (mixed_at cs t) k hk)))

-- four words
all_word : (x : ℕ) → AllByRecursion (λ b. b < 256) (le_bytes 4 x)
all_word x = all_of 4 (le_bytes 4 x) (le_bytes_bytes 4 x)

pub state_bytes : (a b c d : ℕ) → Bytes 16 (four a b c d)
state_bytes a b c d =
    of_all 16 (four a b c d) refl
    (All-append (λ x. x < 256) (le_bytes 4 a) (le_bytes 4 b ++ (le_bytes 4 c ++ le_bytes 4 d)) (all_word a)
    (All-append (λ x. x < 256) (le_bytes 4 b) (le_bytes 4 c ++ le_bytes 4 d) (all_word b) (All-append (λ x. x < 256) (le_bytes 4 c) (le_bytes 4 d) (all_word c) (all_word d))))

pub key_bytes : (ks : List ℕ) (r : ℕ) → Bytes 16 (round_key ks r)
key_bytes ks r = state_bytes (at ks (4 * r)) (at ks (4 * r + 1)) (at ks (4 * r + 2)) (at ks (4 * r + 3))
