-- Bytes as hexadecimal text: two digits for each byte, the high one first.
use Rattle.std.specs.Prelude.{◌≡◌, ℕ, ◌+◌, ◌*◌, ◌/◌, ◌%◌, ◌<◌, List, [], ◌∷◌, length, slice_index}
use Rattle.std.specs.Char.{digit_char, digit_value}

-- the text of some bytes, in lower case
abbrev pub hex_text : List ℕ → List ℕ
hex_text [] = []
hex_text (b ∷ bs) = digit_char (b / 16) ∷ digit_char (b % 16) ∷ hex_text bs

-- a hexadecimal digit, in either case
abbrev pub HexDigit : ℕ → Type 0
HexDigit c = digit_value c < 16

abbrev pub HexDigits : List ℕ → Type 0
HexDigits text = (k : ℕ) → k < length text → HexDigit (slice_index text k)

abbrev pub pair_value : ℕ → ℕ → ℕ
pair_value high low = digit_value high * 16 + digit_value low

-- the bytes whose digits these are, two to a byte
abbrev pub hex_bytes : List ℕ → List ℕ
hex_bytes [] = []
hex_bytes (c ∷ []) = []
hex_bytes (c ∷ d ∷ text) = pair_value c d ∷ hex_bytes text

-- the text is an even number of digits, and these are its bytes
pub record Spells (text bytes : List ℕ) : Type 0 where
  pub even : length text % 2 ≡ 0
  pub digits : HexDigits text
  pub bytes_are : bytes ≡ hex_bytes text
