-- The words of a line, and what number a word is.
use Rattle.std.specs.Prelude.{◌≡◌, ℕ, zero, suc, ◌^◌, ◌<◌, ◌⊎◌, List, [], ◌∷◌, ◌++◌, length, Some, None, Option, slice_index}
use Rattle.std.specs.Borrow.{Bor}
use Rattle.std.specs.Char.{is_whitespace, is_not_whitespace}
use Rattle.std.specs.Str.{NoCharPasses, EmptyOrStartsWithPassing}
use Rattle.std.specs.Str.Parse.{IsNumeral, digits_value}

-- bs is white space, the word w, and rest, which is empty or begins with white space
pub record First (bs w rest : List ℕ) : Type 0 where
  pub gap : List ℕ
  pub cut : bs ≡ gap ++ (w ++ rest)
  pub some : 0 < length w
  pub blank : NoCharPasses is_not_whitespace gap
  pub solid : NoCharPasses is_whitespace w
  pub ends : (more : List ℕ) × EmptyOrStartsWithPassing is_whitespace rest more

-- a word that begins with `#` begins a comment
abbrev pub Comment : List ℕ → Type 0
Comment w = slice_index w 0 ≡ 35

-- these are the words of a line, up to its end or a comment
abbrev pub Split : List ℕ → List (Bor (List ℕ)) → Type 0
Split bs [] = NoCharPasses is_not_whitespace bs ⊎ ((w : List ℕ) × (rest : List ℕ) × First bs w rest × Comment w)
Split bs (w ∷ ws) = (rest : List ℕ) × First bs w.now rest × (Comment w.now → ⊥) × Split rest ws

-- the word at a place, empty past the last
abbrev pub word_at : List (Bor (List ℕ)) → ℕ → List ℕ
word_at [] i = []
word_at (w ∷ ws) zero = w.now
word_at (w ∷ ws) (suc i) = word_at ws i

-- a word that is this decimal number
abbrev pub InDecimal : List ℕ → ℕ → Type 0
InDecimal word n = IsNumeral 10 word × (digits_value 10 word ≡ n) × (n < 2 ^ 64)

-- the number that the word is, or none where it is none
abbrev pub ReadsDecimal : List ℕ → Option ℕ → Type 0
ReadsDecimal word (Some n) = InDecimal word n
ReadsDecimal word None = (n : ℕ) → InDecimal word n → ⊥
