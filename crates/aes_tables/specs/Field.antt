-- The field of 256 elements, and the substitution of a byte, as FIPS 197 has them.
-- A byte is the polynomial of its bits over the two-element field; products are modulo 11b hex, x^8 + x^4 + x^3 + x + 1.
use Rattle.std.specs.Prelude.{◌≡◌, ℕ, zero, suc, ◌+◌, ◌*◌, ◌/◌, ◌%◌, ◌^◌, ◌<◌, bit_xor}

-- a byte times x
abbrev pub times2 : ℕ → ℕ
times2 a = bit_xor (a * 2) (a / 128 * 0x11b)

-- a times the polynomial of the n low bits of b
abbrev pub mul_low : ℕ → ℕ → ℕ → ℕ
mul_low zero a b = 0
mul_low (suc n) a b = bit_xor (b % 2 * a) (mul_low n (times2 a) (b / 2))

-- the product of two bytes
unfoldable pub mul : ℕ → ℕ → ℕ
mul a b = mul_low 8 a b

abbrev pub square : ℕ → ℕ
square a = mul a a

-- a to the power 2 ^ (n + 1) - 2
abbrev pub power : ℕ → ℕ → ℕ
power zero a = 1
power (suc n) a = square (mul a (power n a))

-- a to the power 254: the inverse, and 0 for 0
unfoldable pub inverse : ℕ → ℕ
inverse a = power 7 a

-- what makes it the inverse
abbrev pub InverseHolds : Type 0
InverseHolds = (inverse 0 ≡ 0) × ((a : ℕ) → 0 < a → a < 256 → (inverse a < 256) × (mul a (inverse a) ≡ 1))

abbrev pub bit : ℕ → ℕ → ℕ
bit i b = b / 2 ^ i % 2

-- bit i of the affine map: the sum of bits i and i + 4 to i + 7, counted modulo 8, and of bit i of 63 hex
abbrev pub affine_bit : ℕ → ℕ → ℕ
affine_bit b i = (bit i b + bit ((i + 4) % 8) b + bit ((i + 5) % 8) b + bit ((i + 6) % 8) b + bit ((i + 7) % 8) b + bit i 0x63) % 2

-- the n low bits of the affine map
abbrev pub affine_low : ℕ → ℕ → ℕ
affine_low zero b = 0
affine_low (suc n) b = affine_low n b + affine_bit b n * 2 ^ n

-- the substitution of a byte: the affine map of its inverse
unfoldable pub sub : ℕ → ℕ
sub a = affine_low 8 (inverse a)

-- bit i of the affine map's inverse: the sum of bits i + 2, i + 5 and i + 7, counted modulo 8, and of bit i of 05 hex
abbrev pub affine_back_bit : ℕ → ℕ → ℕ
affine_back_bit b i = (bit ((i + 2) % 8) b + bit ((i + 5) % 8) b + bit ((i + 7) % 8) b + bit i 0x05) % 2

-- the n low bits of the affine map's inverse
abbrev pub affine_back_low : ℕ → ℕ → ℕ
affine_back_low zero b = 0
affine_back_low (suc n) b = affine_back_low n b + affine_back_bit b n * 2 ^ n

-- the inverse substitution of a byte
unfoldable pub sub_back : ℕ → ℕ
sub_back a = inverse (affine_back_low 8 a)
