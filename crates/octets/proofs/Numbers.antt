-- A number and its little-endian bytes.
use Rattle.std.proofs.Common.{◌≡◌, ℕ, zero, suc, ◌+◌, ◌*◌, ◌/◌, ◌%◌, ◌^◌, ◌<◌, List, [], ◌∷◌, ◌++◌, length, get_or, take, drop, sym, refl, ap, ◌∙◌, subst, ap₂, mul_assoc, mul_comm, suc-add, pow-suc, zero-add, div-one, arith, lit<}
use native.Mathlib.Nat.{pow-zero, div-div-eq-div-mul}
use lib.Arith.{mod-mul}
use lib.Bits.{bit_xor, xor_mod, xor_shr}
use Rattle.std.proofs.lemmas.List.{drop_all, get_or-drop}
use Rattle.std.specs.List.{AllByRecursion}
use Rattle.octets.specs.Little.{Bytes, le_number, le_bytes, xored}
use Rattle.octets.proofs.Lists.{all_of, of_all}

pub length_le_bytes : (n x : ℕ) → length (le_bytes n x) ≡ n
length_le_bytes zero x = refl
length_le_bytes (suc n) x = ap suc (length_le_bytes n (x / 256))

le_bytes_all : (n x : ℕ) → AllByRecursion (λ b. b < 256) (le_bytes n x)
le_bytes_all zero x = tt
le_bytes_all (suc n) x = (omega arith, le_bytes_all n (x / 256))

pub le_bytes_bytes : (n x : ℕ) → Bytes n (le_bytes n x)
le_bytes_bytes n x = of_all n (le_bytes n x) (length_le_bytes n x) (le_bytes_all n x)

pub number_bytes : (n x : ℕ) → x < 256 ^ n → le_number (le_bytes n x) ≡ x
number_bytes zero x h = let p = rw pow-zero at h in omega arith
number_bytes (suc n) x h =
    let p : x / 256 < 256 ^ n = omega (arith, pow-suc 256 n) in
    rw (number_bytes n (x / 256) p) (omega arith)

number_lt_all : (bs : List ℕ) → AllByRecursion (λ b. b < 256) bs → le_number bs < 256 ^ length bs
number_lt_all [] a = rw pow-zero (omega arith)
number_lt_all (b ∷ bs) a = let h = number_lt_all bs a.1 in let e = a.0 in omega (arith, pow-suc 256 (length bs), h)

bytes_number_all : (bs : List ℕ) → AllByRecursion (λ b. b < 256) bs → le_bytes (length bs) (le_number bs) ≡ bs
bytes_number_all [] a = refl
bytes_number_all (b ∷ bs) a =
    let e = a.0 in
    let low : (b + 256 * le_number bs) % 256 ≡ b = omega arith in
    let high : (b + 256 * le_number bs) / 256 ≡ le_number bs = omega arith in
    rw (low, high, bytes_number_all bs a.1)

pub number_lt : (n : ℕ) (bs : List ℕ) → Bytes n bs → le_number bs < 256 ^ n
number_lt n bs h = subst (λ (m : ℕ). le_number bs < 256 ^ m) h.0 (number_lt_all bs (all_of n bs h))

pub bytes_number : (n : ℕ) (bs : List ℕ) → Bytes n bs → le_bytes n (le_number bs) ≡ bs
bytes_number n bs h = subst (λ (m : ℕ). le_bytes m (le_number bs) ≡ bs) h.0 (bytes_number_all bs (all_of n bs h))

pub bytes_xor : (n x y : ℕ) → le_bytes n (bit_xor x y) ≡ xored (le_bytes n x) (le_bytes n y)
bytes_xor zero x y = refl
bytes_xor (suc n) x y = ap₂ ◌∷◌ (xor_mod x y 8) (ap (le_bytes n) (xor_shr x y 8) ∙ bytes_xor n (x / 256) (y / 256))

-- the number of the first m bytes, and that of the rest above it
pub number_split : (m : ℕ) (xs : List ℕ) → le_number xs ≡ le_number (take m xs) + 256 ^ m * le_number (drop m xs)
number_split zero xs = rw pow-zero (omega arith)
number_split (suc m) [] = omega arith
number_split (suc m) (x ∷ xs) =
    let d : ℕ = le_number (drop m xs) in
    let f : 256 ^ suc m * d ≡ 256 * (256 ^ m * d) = ap (λ (k : ℕ). k * d) (pow-suc 256 m ∙ mul_comm (256 ^ m) 256) ∙ mul_assoc 256 (256 ^ m) d in
    omega (arith, number_split m xs, f)

-- the low bytes, and then those above them
pub bytes_split : (m n x : ℕ) → le_bytes (m + n) x ≡ le_bytes m x ++ le_bytes n (x / 256 ^ m)
bytes_split zero n x = rw (zero-add, pow-zero, div-one)
bytes_split (suc m) n x =
    rw suc-add (ap (λ (ys : List ℕ). (x % 256) ∷ ys)
    (bytes_split m n (x / 256) ∙ ap (λ (y : ℕ). le_bytes m (x / 256) ++ le_bytes n y) (div-div-eq-div-mul x 256 (256 ^ m) ∙ ap (λ (k : ℕ). x / k) (mul_comm 256 (256 ^ m) ∙ sym (pow-suc 256 m)))))

pow_pos : (n : ℕ) → 0 < 256 ^ n
pow_pos zero = rw pow-zero (lit< tt)
pow_pos (suc n) = let h = pow_pos n in rw pow-suc (omega arith)

-- only the low bytes of a number count
digit_low : (q r : ℕ) → r < 256 → (q * 256 + r) % 256 ≡ r
digit_low q r h = omega arith

digit_high : (q r : ℕ) → r < 256 → (q * 256 + r) / 256 ≡ q
digit_high q r h = omega arith

pub bytes_low : (n x : ℕ) → le_bytes n (x % 256 ^ n) ≡ le_bytes n x
bytes_low zero x = refl
bytes_low (suc n) x =
    let small : x % 256 < 256 = omega arith in
    let e : x % 256 ^ suc n ≡ (x / 256 % 256 ^ n) * 256 + x % 256 = ap (λ (k : ℕ). x % k) (pow-suc 256 n) ∙ mod-mul x (pow_pos n) (lit< tt) in
    ap₂ (λ (d : ℕ) (ds : List ℕ). d ∷ ds) (ap (λ (y : ℕ). y % 256) e ∙ digit_low (x / 256 % 256 ^ n) (x % 256) small)
    (ap (λ (y : ℕ). le_bytes n (y / 256)) e ∙ ap (le_bytes n) (digit_high (x / 256 % 256 ^ n) (x % 256) small) ∙ bytes_low n (x / 256))

number_next : (i : ℕ) (xs : List ℕ) → le_number (drop i xs) ≡ get_or xs i 0 + 256 * le_number (drop (suc i) xs)
number_next zero [] = refl
number_next zero (x ∷ xs) = refl
number_next (suc i) [] = refl
number_next (suc i) (x ∷ xs) = number_next i xs

none_left : (n : ℕ) (xs : List ℕ) → length xs ≡ n → le_number (drop n xs) ≡ 0
none_left n xs e = ap le_number (drop_all n xs (omega arith))

pub number16_is : (xs : List ℕ) → length xs ≡ 16 → get_or xs 0 0 + get_or xs 1 0 * 256 + get_or xs 2 0 * 65536 + get_or xs 3 0 * 16777216 + get_or xs 4 0 * 4294967296 + get_or xs 5 0 * 1099511627776 + get_or xs 6 0 * 281474976710656 + get_or xs 7 0 * 72057594037927936 + get_or xs 8 0 * 18446744073709551616 + get_or xs 9 0 * 4722366482869645213696 + get_or xs 10 0 * 1208925819614629174706176 + get_or xs 11 0 * 309485009821345068724781056 + get_or xs 12 0 * 79228162514264337593543950336 + get_or xs 13 0 * 20282409603651670423947251286016 + get_or xs 14 0 * 5192296858534827628530496329220096 + get_or xs 15 0 * 1329227995784915872903807060280344576 ≡ le_number xs
number16_is xs e =
    let z = none_left 16 xs e in
    let q0 = number_next 0 xs in
    let q1 = number_next 1 xs in
    let q2 = number_next 2 xs in
    let q3 = number_next 3 xs in
    let q4 = number_next 4 xs in
    let q5 = number_next 5 xs in
    let q6 = number_next 6 xs in
    let q7 = number_next 7 xs in
    let q8 = number_next 8 xs in
    let q9 = number_next 9 xs in
    let q10 = number_next 10 xs in
    let q11 = number_next 11 xs in
    let q12 = number_next 12 xs in
    let q13 = number_next 13 xs in
    let q14 = number_next 14 xs in
    let q15 = number_next 15 xs in
    omega arith

pub bytes16_is : (x : ℕ) → (x % 256) ∷ (x / 256 % 256) ∷ (x / 65536 % 256) ∷ (x / 16777216 % 256) ∷ (x / 4294967296 % 256) ∷ (x / 1099511627776 % 256) ∷ (x / 281474976710656 % 256) ∷ (x / 72057594037927936 % 256) ∷ (x / 18446744073709551616 % 256) ∷ (x / 4722366482869645213696 % 256) ∷ (x / 1208925819614629174706176 % 256) ∷ (x / 309485009821345068724781056 % 256) ∷ (x / 79228162514264337593543950336 % 256) ∷ (x / 20282409603651670423947251286016 % 256) ∷ (x / 5192296858534827628530496329220096 % 256) ∷ (x / 1329227995784915872903807060280344576 % 256) ∷ [] ≡ le_bytes 16 x
bytes16_is x = simp div-div-eq-div-mul

-- four bytes from place k on, and the four bytes of a number, as arithmetic writes them
number4 : (s : List ℕ) → get_or s 0 0 + get_or s 1 0 * 256 + get_or s 2 0 * 65536 + get_or s 3 0 * 16777216 ≡ le_number (take 4 s)
number4 [] = refl
number4 (a ∷ []) = omega arith
number4 (a ∷ b ∷ []) = omega arith
number4 (a ∷ b ∷ c ∷ []) = omega arith
number4 (a ∷ b ∷ c ∷ d ∷ s) = omega arith

pub number4_is : (s : List ℕ) (k : ℕ) → get_or s k 0 + get_or s (k + 1) 0 * 256 + get_or s (k + 2) 0 * 65536 + get_or s (k + 3) 0 * 16777216 ≡ le_number (take 4 (drop k s))
number4_is s k =
    let e0 : get_or (drop k s) 0 0 ≡ get_or s k 0 = get_or-drop k s 0 0 ∙ ap (λ (i : ℕ). get_or s i 0) (let z : k + 0 ≡ k = omega arith in z) in
    let e1 = get_or-drop k s 1 0 in
    let e2 = get_or-drop k s 2 0 in
    let e3 = get_or-drop k s 3 0 in
    let n = number4 (drop k s) in
    omega arith

pub bytes4_is : (x : ℕ) → (x % 256) ∷ (x / 256 % 256) ∷ (x / 65536 % 256) ∷ (x / 16777216 % 256) ∷ [] ≡ le_bytes 4 x
bytes4_is x = simp div-div-eq-div-mul
