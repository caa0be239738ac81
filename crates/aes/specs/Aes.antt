-- AES-256, as FIPS 197 has it. A state is a list of 16 bytes: byte r + 4c is row r, column c.
use Rattle.std.specs.Prelude.{ℕ, zero, suc, ◌+◌, ◌-◌, ◌*◌, ◌/◌, ◌%◌, cond, List, [], ◌∷◌, ◌++◌, map, take, drop, ◌==◌, bit_xor}
use Rattle.std.specs.List.{range_with_len}
use Rattle.octets.specs.Little.{le_bytes, le_number, xored}
use Rattle.aes_tables.specs.Field.{sub, sub_back, times2}
use Rattle.aes_tables.specs.Columns.{at, row_times, mix, mix_back, sub_word}

-- f of 0, of 1 and so on, n of them
abbrev pub listed : ℕ → (ℕ → ℕ) → List ℕ
listed n f = map f (range_with_len 0 n)

-- SubBytes
abbrev pub sub_bytes : List ℕ → List ℕ
sub_bytes s = map sub s

-- ShiftRows: row r is turned left by r places
abbrev pub shift_rows : List ℕ → List ℕ
shift_rows s = listed 16 (λ i. at s (i % 4 + 4 * ((i / 4 + i % 4) % 4)))

-- byte i of a state whose columns are each multiplied by a matrix
abbrev pub mixed_at : List ℕ → List ℕ → ℕ → ℕ
mixed_at cs s i = row_times cs (i % 4) (at s (i / 4 * 4)) (at s (i / 4 * 4 + 1)) (at s (i / 4 * 4 + 2)) (at s (i / 4 * 4 + 3))

abbrev pub mixed_by : List ℕ → List ℕ → List ℕ
mixed_by cs s = listed 16 (mixed_at cs s)

-- MixColumns
abbrev pub mix_columns : List ℕ → List ℕ
mix_columns s = mixed_by mix s

-- InvShiftRows: row r is turned right by r places
abbrev pub shift_rows_back : List ℕ → List ℕ
shift_rows_back s = listed 16 (λ i. at s (i % 4 + 4 * ((i / 4 + 4 - i % 4) % 4)))

-- InvSubBytes
abbrev pub sub_bytes_back : List ℕ → List ℕ
sub_bytes_back s = map sub_back s

-- InvMixColumns
abbrev pub mix_columns_back : List ℕ → List ℕ
mix_columns_back s = mixed_by mix_back s

-- RotWord: the first byte of a word becomes its last
abbrev pub rot_word : ℕ → ℕ
rot_word w = w / 256 + w % 256 * 16777216

-- the powers of x in the field: the first bytes of the round constants, from x^0 for the first
abbrev pub constant : ℕ → ℕ
constant zero = 1
constant (suc n) = times2 (constant n)

-- what is added to word i - 8 of the schedule to make word i, from word i - 1
unfoldable pub changed : ℕ → ℕ → ℕ
changed i w = cond (i % 8 == 0) (bit_xor (sub_word (rot_word w)) (constant (i / 8 - 1))) (cond (i % 8 == 4) (sub_word w) w)

abbrev pub next_word : List ℕ → ℕ → ℕ
next_word k i = bit_xor (at k (i - 8)) (changed i (at k (i - 1)))

-- KeyExpansion: the first 8 + n words of the schedule, the first 8 of which are the key
unfoldable pub expanded : List ℕ → ℕ → List ℕ
expanded key zero = listed 8 (λ i. le_number (take 4 (drop (4 * i) key)))
expanded key (suc n) = let k : List ℕ = expanded key n in k ++ (next_word k (n + 8) ∷ [])

-- all 60 words of it
abbrev pub schedule : List ℕ → List ℕ
schedule key = expanded key 52

-- the bytes of four words, which are four columns
abbrev pub four : ℕ → ℕ → ℕ → ℕ → List ℕ
four a b c d = le_bytes 4 a ++ (le_bytes 4 b ++ (le_bytes 4 c ++ le_bytes 4 d))

-- the key of round r, which AddRoundKey adds by exclusive-or
abbrev pub round_key : List ℕ → ℕ → List ℕ
round_key k r = four (at k (4 * r)) (at k (4 * r + 1)) (at k (4 * r + 2)) (at k (4 * r + 3))

-- a full round with its key
abbrev pub round_with : List ℕ → List ℕ → List ℕ
round_with s k = xored (mix_columns (shift_rows (sub_bytes s))) k

-- after the first key and n full rounds
unfoldable pub rounds : List ℕ → ℕ → List ℕ → List ℕ
rounds k zero s = xored s (round_key k 0)
rounds k (suc n) s = round_with (rounds k n s) (round_key k (suc n))

-- Cipher: 13 full rounds, and the last, which does not mix
abbrev pub ciphered : List ℕ → List ℕ → List ℕ
ciphered k s = xored (shift_rows (sub_bytes (rounds k 13 s))) (round_key k 14)

-- the block s enciphered under a key of 32 bytes
unfoldable pub aes : List ℕ → List ℕ → List ℕ
aes key s = ciphered (schedule key) s

-- a round on the way back, with its key
abbrev pub round_back : List ℕ → List ℕ → List ℕ
round_back s k = mix_columns_back (xored (sub_bytes_back (shift_rows_back s)) k)

-- the rounds n to 1 on the way back
unfoldable pub rounds_back : List ℕ → ℕ → List ℕ → List ℕ
rounds_back k zero s = s
rounds_back k (suc n) s = rounds_back k n (round_back s (round_key k (suc n)))

-- InvCipher
abbrev pub ciphered_back : List ℕ → List ℕ → List ℕ
ciphered_back k s = xored (sub_bytes_back (shift_rows_back (rounds_back k 13 (xored s (round_key k 14))))) (round_key k 0)

-- the block s deciphered under a key of 32 bytes
unfoldable pub aes_back : List ℕ → List ℕ → List ℕ
aes_back key s = ciphered_back (schedule key) s
