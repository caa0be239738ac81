-- A pass through the cipher, said once for both ways: f is what becomes of a byte, and cs is row 0 of the matrix that mixes columns.
use Rattle.std.specs.Prelude.{ℕ, zero, suc, List, map}
use Rattle.octets.specs.Little.{xored}
use Rattle.aes.specs.Aes.{shift_rows, mixed_by}

-- a full round with its key
abbrev pub round_by : (ℕ → ℕ) → List ℕ → List ℕ → List ℕ → List ℕ
round_by f cs s k = xored (mixed_by cs (shift_rows (map f s))) k

-- the last round, which does not mix
abbrev pub last_by : (ℕ → ℕ) → List ℕ → List ℕ → List ℕ
last_by f s k = xored (shift_rows (map f s)) k

-- after the first key and n full rounds, the keys being what a function makes of the number of the round
unfoldable pub rounds_by : (ℕ → ℕ) → List ℕ → (ℕ → List ℕ) → ℕ → List ℕ → List ℕ
rounds_by f cs key zero s = xored s (key 0)
rounds_by f cs key (suc n) s = round_by f cs (rounds_by f cs key n s) (key (suc n))

abbrev pub passed_by : (ℕ → ℕ) → List ℕ → (ℕ → List ℕ) → List ℕ → List ℕ
passed_by f cs key s = last_by f (rounds_by f cs key 13 s) (key 14)
