-- Bytes, and numbers as their little-endian bytes.
use Rattle.std.specs.Prelude.{◌≡◌, ℕ, zero, suc, ◌+◌, ◌*◌, ◌/◌, ◌%◌, ◌<◌, Bool, List, [], ◌∷◌, length, ◌==◌, bit_xor, slice_index}
use Rattle.std.specs.List.{list_all}

-- a list of n numbers that are each below 256
abbrev pub Bytes : ℕ → List ℕ → Type 0
Bytes n xs = (length xs ≡ n) × ((k : ℕ) → k < n → slice_index xs k < 256)

-- the number whose little-endian bytes these are
abbrev pub le_number : List ℕ → ℕ
le_number [] = 0
le_number (b ∷ bs) = b + 256 * le_number bs

-- the n low little-endian bytes of a number
abbrev pub le_bytes : ℕ → ℕ → List ℕ
le_bytes zero x = []
le_bytes (suc n) x = (x % 256) ∷ le_bytes n (x / 256)

-- exclusive-or, byte by byte
abbrev pub xored : List ℕ → List ℕ → List ℕ
xored [] ys = []
xored (x ∷ xs) [] = []
xored (x ∷ xs) (y ∷ ys) = bit_xor x y ∷ xored xs ys

-- each is v
abbrev pub all_are : ℕ → List ℕ → Bool
all_are v = list_all (λ x. x == v)
