-- Columns of four bytes, the two mixing matrices of FIPS 197, and words of 32 bits as columns.
-- A word is the number whose little-endian bytes are the column, from the top.
use Rattle.std.specs.Prelude.{ℕ, ◌+◌, ◌-◌, ◌/◌, ◌%◌, List, [], ◌∷◌, map, bit_xor, slice_index}
use Rattle.std.specs.List.{range_with_len}
use Rattle.octets.specs.Little.{le_bytes, le_number}
use Rattle.aes_tables.specs.Field.{mul, sub}

-- what stands at a place of a list of bytes or of words
abbrev pub at : List ℕ → ℕ → ℕ
at s i = slice_index s i

-- the sum of four elements of the field
abbrev pub sum4 : ℕ → ℕ → ℕ → ℕ → ℕ
sum4 a b c d = bit_xor (bit_xor a b) (bit_xor c d)

-- row r, place j of the matrix whose row 0 is cs, and whose every other row is the one above turned right by one place
abbrev pub entry : List ℕ → ℕ → ℕ → ℕ
entry cs r j = at cs ((j + 4 - r) % 4)

-- row r of the matrix, times a column
abbrev pub row_times : List ℕ → ℕ → ℕ → ℕ → ℕ → ℕ → ℕ
row_times cs r a b c d = sum4 (mul a (entry cs r 0)) (mul b (entry cs r 1)) (mul c (entry cs r 2)) (mul d (entry cs r 3))

-- the matrix times a column
abbrev pub times : List ℕ → List ℕ → List ℕ
times cs s =
    row_times cs 0 (at s 0) (at s 1) (at s 2) (at s 3)
    ∷ row_times cs 1 (at s 0) (at s 1) (at s 2) (at s 3)
    ∷ row_times cs 2 (at s 0) (at s 1) (at s 2) (at s 3)
    ∷ row_times cs 3 (at s 0) (at s 1) (at s 2) (at s 3)
    ∷ []

-- column j of the matrix, times x
abbrev pub spread : List ℕ → ℕ → ℕ → List ℕ
spread cs j x = mul x (entry cs 0 j) ∷ mul x (entry cs 1 j) ∷ mul x (entry cs 2 j) ∷ mul x (entry cs 3 j) ∷ []

-- row 0 of the matrix of MixColumns
abbrev pub mix : List ℕ
mix = 2 ∷ 3 ∷ 1 ∷ 1 ∷ []

-- row 0 of the matrix of InvMixColumns
abbrev pub mix_back : List ℕ
mix_back = 14 ∷ 11 ∷ 13 ∷ 9 ∷ []

-- the column that four words bring to a shifted state: f of byte 0 of the first, of byte 1 of the second, and so on
abbrev pub gathered : (ℕ → ℕ) → ℕ → ℕ → ℕ → ℕ → List ℕ
gathered f a b c d = f (a % 256) ∷ f (b / 256 % 256) ∷ f (c / 256 / 256 % 256) ∷ f (d / 256 / 256 / 256 % 256) ∷ []

-- f of each byte
unfoldable pub each_byte : {A : Type 0} → (ℕ → A) → List A
each_byte f = map f (range_with_len 0 256)

-- for each place of a column, what each byte, taken through f, adds there to the column that the matrix makes
unfoldable pub column_tables : List ℕ → (ℕ → ℕ) → List (List (List ℕ))
column_tables cs f = map (λ j. each_byte (λ a. spread cs j (f a))) (range_with_len 0 4)

-- SubWord: each byte of a word substituted
abbrev pub sub_word : ℕ → ℕ
sub_word w = le_number (map sub (le_bytes 4 w))

-- a word as a column of InvMixColumns
abbrev pub unmixed : ℕ → ℕ
unmixed w = le_number (times mix_back (le_bytes 4 w))
