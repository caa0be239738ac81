-- Lists of bytes: their bounds, and exclusive-or.
use Rattle.std.proofs.Common.{◌≡◌, ℕ, zero, suc, ◌+◌, ◌<◌, ◌≤◌, List, [], ◌∷◌, ◌++◌, length, get_or, take, drop, sym, refl, ap, ◌∙◌, subst, ap₂, le_of_suc-le-suc, arith, length-append, length-drop, length-take}
use lib.Bits.{bit_xor, xor_assoc, xor_self, xor_zero_r, xor_lt}
use Rattle.std.specs.List.{AllByRecursion}
use Rattle.std.proofs.ByRecursion.{All-from_get_or, All-get_or, All-take, All-drop, All-append}
use Rattle.octets.specs.Little.{Bytes, xored}

-- the two ways to say that each is below 256
pub all_of : (n : ℕ) (xs : List ℕ) → Bytes n xs → AllByRecursion (λ b. b < 256) xs
all_of n xs h = All-from_get_or (λ b. b < 256) xs 0 (λ i l. h.1 i (subst (λ (m : ℕ). i < m) h.0 l))

pub of_all : (n : ℕ) (xs : List ℕ) → length xs ≡ n → AllByRecursion (λ b. b < 256) xs → Bytes n xs
of_all n xs e a = (e, λ k h. All-get_or (λ b. b < 256) xs k 0 (subst (λ (m : ℕ). k < m) (sym e) h) a)

pub xor_twice : (a b : ℕ) → bit_xor (bit_xor a b) b ≡ a
xor_twice a b = xor_assoc a b b ∙ ap (bit_xor a) (xor_self b) ∙ xor_zero_r a

pub xored_twice : (xs ys : List ℕ) → length xs ≡ length ys → xored (xored xs ys) ys ≡ xs
xored_twice [] ys e = refl
xored_twice (x ∷ xs) [] e = absurd (let z : ⊥ = omega arith in z)
xored_twice (x ∷ xs) (y ∷ ys) e = ap₂ ◌∷◌ (xor_twice x y) (xored_twice xs ys (omega arith))

pub length_xored : (xs ys : List ℕ) → length xs ≡ length ys → length (xored xs ys) ≡ length xs
length_xored [] ys e = refl
length_xored (x ∷ xs) [] e = absurd (let z : ⊥ = omega arith in z)
length_xored (x ∷ xs) (y ∷ ys) e = ap suc (length_xored xs ys (omega arith))

pub get_or_xored : (xs ys : List ℕ) (i : ℕ) → length xs ≡ length ys → i < length xs → get_or (xored xs ys) i 0 ≡ bit_xor (get_or xs i 0) (get_or ys i 0)
get_or_xored [] ys i e h = absurd (let z : ⊥ = omega arith in z)
get_or_xored (x ∷ xs) [] i e h = absurd (let z : ⊥ = omega arith in z)
get_or_xored (x ∷ xs) (y ∷ ys) zero e h = refl
get_or_xored (x ∷ xs) (y ∷ ys) (suc i) e h = get_or_xored xs ys i (omega arith) (le_of_suc-le-suc h)

xored_all : (xs ys : List ℕ) → AllByRecursion (λ b. b < 256) xs → AllByRecursion (λ b. b < 256) ys → AllByRecursion (λ b. b < 256) (xored xs ys)
xored_all [] ys a b = tt
xored_all (x ∷ xs) [] a b = tt
xored_all (x ∷ xs) (y ∷ ys) a b = (xor_lt 8 x y a.0 b.0, xored_all xs ys a.1 b.1)

pub xored_bytes : (n : ℕ) (xs ys : List ℕ) → Bytes n xs → Bytes n ys → Bytes n (xored xs ys)
xored_bytes n xs ys h k =
    of_all n (xored xs ys) (length_xored xs ys (h.0 ∙ sym k.0) ∙ h.0) (xored_all xs ys (all_of n xs h) (all_of n ys k))

-- m bytes from place i on
pub part_bytes : (i m n : ℕ) (xs : List ℕ) → i + m ≤ n → Bytes n xs → Bytes m (take m (drop i xs))
part_bytes i m n xs l h =
    let e = h.0 in
    of_all m (take m (drop i xs)) (simp (length-take, length-drop) (omega arith))
    (All-take (λ b. b < 256) m (drop i xs) (All-drop (λ b. b < 256) i xs (all_of n xs h)))

-- all from place i on
pub rest_bytes : (i m n : ℕ) (xs : List ℕ) → i + m ≡ n → Bytes n xs → Bytes m (drop i xs)
rest_bytes i m n xs l h =
    let e = h.0 in
    of_all m (drop i xs) (simp length-drop (omega arith)) (All-drop (λ b. b < 256) i xs (all_of n xs h))

pub append_bytes : (m n : ℕ) (xs ys : List ℕ) → Bytes m xs → Bytes n ys → Bytes (m + n) (xs ++ ys)
append_bytes m n xs ys h k =
    let e = h.0 in
    let f = k.0 in
    of_all (m + n) (xs ++ ys) (simp length-append (omega arith)) (All-append (λ b. b < 256) xs ys (all_of m xs h) (all_of n ys k))
