-- Lists of what a function makes of each place, and the schedule word by word.
use Rattle.std.specs.Prelude.{◌≡◌, ℕ, suc, ◌+◌, ◌-◌, ◌*◌, ◌/◌, ◌%◌, ◌^◌, ◌<◌, ◌≤◌, List, [], ◌∷◌, ◌++◌, length, take, bit_or, bit_xor, slice_set}
use Rattle.std.proofs.Common.{sym, ap, ap₂, ◌∙◌, subst, zero-add, arith}
use Rattle.std.specs.Int.Bits.{or_shifted_r}
use Rattle.std.proofs.lemmas.List.{take_more_set, get_or-take}
use Rattle.std.proofs.lemmas.List.FromFn.{get_or-map-range_with_len, length-map-range_with_len, fill_by_all}
use Rattle.octets.specs.Little.{Bytes}
use Rattle.aes_tables.specs.Columns.{at}
use Rattle.aes.specs.Aes.{listed, rot_word, changed, next_word, expanded}

-- a list of what a function makes of each place
pub listed_at : (n : ℕ) (f : ℕ → ℕ) (i : ℕ) → i < n → at (listed n f) i ≡ f i
listed_at n f i h = get_or-map-range_with_len f 0 n i i 0 h (zero-add i)

pub listed_bytes : (n : ℕ) (f : ℕ → ℕ) → ((i : ℕ) → i < n → f i < 256) → Bytes n (listed n f)
listed_bytes n f low = (length-map-range_with_len f 0 n, λ k h. subst (λ (x : ℕ). x < 256) (sym (listed_at n f k h)) (low k h))

pub is_listed : (n : ℕ) (f : ℕ → ℕ) (s : List ℕ) → length s ≡ n → ((k : ℕ) → k < n → f k ≡ at s k) → listed n f ≡ s
is_listed n f s l e = sym (fill_by_all f s n 0 l (λ k h. sym (e k h)))

pub is_turned : (w : ℕ) → w < 2 ^ 32 → bit_or (w / 2 ^ 8) ((w * 2 ^ 24) % 2 ^ 32) ≡ rot_word w
is_turned w h =
    let e : (w * 2 ^ 24) % 2 ^ 32 ≡ (w % 2 ^ 8) * 2 ^ 24 = omega arith in
    let l : w / 2 ^ 8 < 2 ^ 24 = omega arith in
    ap (bit_or (w / 2 ^ 8)) e ∙ or_shifted_r (w % 2 ^ 8) 24 (w / 2 ^ 8) l ∙ omega arith

pub expand_next : (key : List ℕ) (n : ℕ) (w : List ℕ) (v : ℕ) → 8 ≤ n → n < length w → take n w ≡ expanded key (n - 8) → v ≡ changed n (at w (n - 1))
    → take (n + 1) (slice_set w n (bit_xor (at w (n - 8)) v)) ≡ expanded key (n + 1 - 8)
unfolding expanded
expand_next key n w v lo hi e ev =
    let m : n + 1 - 8 ≡ suc (n - 8) = omega arith in
    let back : n ≡ n - 8 + 8 = omega arith in
    let a : at w (n - 8) ≡ at (take n w) (n - 8) = sym (get_or-take n w (n - 8) 0 (omega arith)) in
    let b : at w (n - 1) ≡ at (take n w) (n - 1) = sym (get_or-take n w (n - 1) 0 (omega arith)) in
    let here : bit_xor (at w (n - 8)) v ≡ next_word (take n w) n = ap₂ bit_xor a (ev ∙ ap (changed n) b) in
    take_more_set w n (bit_xor (at w (n - 8)) v) hi
    ∙ ap (λ (x : ℕ). take n w ++ (x ∷ [])) here
    ∙ ap (λ (k : List ℕ). k ++ (next_word k n ∷ [])) e
    ∙ ap (λ (i : ℕ). expanded key (n - 8) ++ (next_word (expanded key (n - 8)) i ∷ [])) back
    ∙ ap (expanded key) (sym m)
