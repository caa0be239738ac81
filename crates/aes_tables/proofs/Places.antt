-- Columns that tables make, byte by byte.
use Rattle.std.proofs.Common.{◌≡◌, ℕ, ◌+◌, ◌*◌, ◌/◌, ◌%◌, ◌^◌, ◌<◌, List, [], ◌∷◌, map, get_or, zero-add, sym, refl, ap, ◌∙◌, ap₂, arith}
use lib.Bits.{bit_xor, xor_assoc, xor_zero_r}
use Rattle.std.proofs.Math.ListN.{get_or-map}
use Rattle.std.proofs.lemmas.List.FromFn.{get_or-map-range_with_len}
use Rattle.octets.specs.Little.{Bytes, le_bytes, le_number, xored}
use Rattle.octets.proofs.Numbers.{number_bytes, bytes_number, bytes_xor, le_bytes_bytes}
use Rattle.octets.proofs.Lists.{all_of, of_all}
use Rattle.aes_tables.specs.Field.{sub, sub_back}
use Rattle.aes_tables.specs.Columns.{row_times, times, spread, gathered, each_byte, column_tables, mix_back, sub_word, unmixed}
use Rattle.aes_tables.proofs.Tests.{byte_entry}
use Rattle.aes_tables.proofs.Linear.{Bounded, row_lt, mix_back_bounded}
use Rattle.aes_tables.proofs.Inverses.{sub_undone, sub_lt, map_undone}

pub four_bytes : (a b c d : ℕ) → a < 256 → b < 256 → c < 256 → d < 256 → Bytes 4 (a ∷ b ∷ c ∷ d ∷ [])
four_bytes a b c d ha hb hc hd = of_all 4 (a ∷ b ∷ c ∷ d ∷ []) refl (ha, (hb, (hc, (hd, tt))))

-- a function of bytes
abbrev pub Keeps : (ℕ → ℕ) → Type 0
Keeps f = (a : ℕ) → a < 256 → f a < 256

pub gathered_bytes : (f : ℕ → ℕ) → Keeps f → (a b c d : ℕ) → Bytes 4 (gathered f a b c d)
gathered_bytes f keeps a b c d =
    four_bytes (f (a % 256)) (f (b / 256 % 256)) (f (c / 256 / 256 % 256)) (f (d / 256 / 256 / 256 % 256))
    (keeps (a % 256) (omega arith)) (keeps (b / 256 % 256) (omega arith)) (keeps (c / 256 / 256 % 256) (omega arith)) (keeps (d / 256 / 256 / 256 % 256) (omega arith))

pub times_bytes : (cs : List ℕ) → Bounded cs → (a b c d : ℕ) → a < 256 → b < 256 → c < 256 → d < 256 → Bytes 4 (times cs (a ∷ b ∷ c ∷ d ∷ []))
times_bytes cs small a b c d ha hb hc hd =
    four_bytes (row_times cs 0 a b c d) (row_times cs 1 a b c d) (row_times cs 2 a b c d) (row_times cs 3 a b c d)
    (row_lt cs small 0 a b c d ha hb hc hd) (row_lt cs small 1 a b c d ha hb hc hd) (row_lt cs small 2 a b c d ha hb hc hd) (row_lt cs small 3 a b c d ha hb hc hd)

-- an entry of the tables of a way
entry_is : (cs : List ℕ) (f : ℕ → ℕ) (tables : List (List ℕ)) → map (map (le_bytes 4)) tables ≡ column_tables cs f
    → (j a : ℕ) → j < 4 → a < 256 → le_bytes 4 (get_or (get_or tables j []) a 0) ≡ spread cs j (f a)
unfolding column_tables
entry_is cs f tables e j a hj ha =
    sym (get_or-map (le_bytes 4) (get_or tables j []) a 0)
    ∙ ap (λ (t : List (List ℕ)). get_or t a (le_bytes 4 0))
    (sym (get_or-map (map (le_bytes 4)) tables j []) ∙ ap (λ (ts : List (List (List ℕ))). get_or ts j []) e
    ∙ get_or-map-range_with_len (λ (i : ℕ). each_byte (λ (x : ℕ). spread cs i (f x))) 0 4 j j [] hj (zero-add j))
    ∙ byte_entry (λ (x : ℕ). spread cs j (f x)) a (le_bytes 4 0) ha

-- the sum of four entries, and of a key
pub column_is : (cs : List ℕ) (f : ℕ → ℕ) (tables : List (List ℕ)) → map (map (le_bytes 4)) tables ≡ column_tables cs f
    → (s : List ℕ) (a b c d k : ℕ) → s ≡ gathered (λ x. x) a b c d
    → le_bytes 4 (bit_xor (bit_xor (bit_xor (bit_xor (get_or (get_or tables 0 []) (get_or s 0 0) 0) (get_or (get_or tables 1 []) (get_or s 1 0) 0)) (get_or (get_or tables 2 []) (get_or s 2 0) 0)) (get_or (get_or tables 3 []) (get_or s 3 0) 0)) k)
    ≡ xored (times cs (gathered f a b c d)) (le_bytes 4 k)
column_is cs f tables e s a b c d k es =
    let word : ℕ → ℕ → ℕ = λ j x. get_or (get_or tables j []) x 0 in
    let x : ℕ = word 0 (a % 256) in
    let y : ℕ = word 1 (b / 256 % 256) in
    let z : ℕ = word 2 (c / 256 / 256 % 256) in
    let w : ℕ = word 3 (d / 256 / 256 / 256 % 256) in
    let at_byte = entry_is cs f tables e in
    rw es
    (bytes_xor 4 (bit_xor (bit_xor (bit_xor x y) z) w) k
    ∙ ap (λ (t : List ℕ). xored t (le_bytes 4 k))
    (ap (le_bytes 4) (xor_assoc (bit_xor x y) z w) ∙ bytes_xor 4 (bit_xor x y) (bit_xor z w)
    ∙ ap₂ xored (bytes_xor 4 x y ∙ ap₂ xored (at_byte 0 (a % 256) (omega arith) (omega arith)) (at_byte 1 (b / 256 % 256) (omega arith) (omega arith)))
    (bytes_xor 4 z w ∙ ap₂ xored (at_byte 2 (c / 256 / 256 % 256) (omega arith) (omega arith)) (at_byte 3 (d / 256 / 256 / 256 % 256) (omega arith) (omega arith)))))

-- the word of four substituted bytes
pub gathered_is : (f : ℕ → ℕ) (n w x y z a b c d : ℕ) → n ≡ w + x * 256 + y * 65536 + z * 16777216
    → w < 256 → x < 256 → y < 256 → z < 256
    → w ≡ f (a % 256) → x ≡ f (b / 256 % 256) → y ≡ f (c / 256 / 256 % 256) → z ≡ f (d / 256 / 256 / 256 % 256) → le_bytes 4 n ≡ gathered f a b c d
gathered_is f n w x y z a b c d en hw hx hy hz ew ex ey ez =
    let e0 : n % 256 ≡ f (a % 256) = omega arith in
    let e1 : n / 256 % 256 ≡ f (b / 256 % 256) = omega arith in
    let e2 : n / 256 / 256 % 256 ≡ f (c / 256 / 256 % 256) = omega arith in
    let e3 : n / 256 / 256 / 256 % 256 ≡ f (d / 256 / 256 / 256 % 256) = omega arith in
    cc

-- the bytes of a word that was unmixed
pub unmixed_bytes : (w : ℕ) → le_bytes 4 (unmixed w) ≡ times mix_back (le_bytes 4 w)
unmixed_bytes w =
    bytes_number 4 (times mix_back (le_bytes 4 w))
    (times_bytes mix_back mix_back_bounded (w % 256) (w / 256 % 256) (w / 256 / 256 % 256) (w / 256 / 256 / 256 % 256) (omega arith) (omega arith) (omega arith) (omega arith))

no_key : (a b c d : ℕ) → xored (a ∷ b ∷ c ∷ d ∷ []) (le_bytes 4 0) ≡ a ∷ b ∷ c ∷ d ∷ []
no_key a b c d = simp xor_zero_r

-- the tables of the way back unmix a word that was substituted before
pub unmixed_is : (r s w : ℕ) → r < 2 ^ 32 → s ≡ sub_word w → le_bytes 4 r ≡ xored (times mix_back (gathered sub_back s s s s)) (le_bytes 4 0) → r ≡ unmixed w
unmixed_is r s w h es er =
    let low : le_bytes 4 s ≡ map sub (le_bytes 4 w) = ap (le_bytes 4) es ∙ bytes_number 4 (map sub (le_bytes 4 w)) (gathered_bytes sub sub_lt w w w w) in
    let same : map sub_back (le_bytes 4 s) ≡ le_bytes 4 w =
    ap (map sub_back) low ∙ map_undone sub sub_back sub_undone (le_bytes 4 w) (all_of 4 (le_bytes 4 w) (le_bytes_bytes 4 w)) in
    sym (number_bytes 4 r h) ∙ ap le_number (er ∙ no_key _ _ _ _ ∙ ap (times mix_back) same)

-- a word of bytes s with a key added
pub keyed : (x k : ℕ) (s : List ℕ) → le_bytes 4 x ≡ s → le_bytes 4 (bit_xor x k) ≡ xored s (le_bytes 4 k)
keyed x k s h = bytes_xor 4 x k ∙ ap (λ t. xored t (le_bytes 4 k)) h
