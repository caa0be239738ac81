-- When a text gives no bytes.
use Rattle.std.specs.Prelude.{◌≡◌, ℕ, ◌%◌, List, length}
use Rattle.hex_text.specs.declared.HexError.{HexError}
use Rattle.hex_text.specs.declared.HexError.TheVariants.{OddLength, NoDigit, Memory}
use Rattle.hex_text.specs.Texts.{HexDigits}

-- the error is that of this text; memory may run out at any
abbrev pub Unfit : List ℕ → HexError → Type 0
Unfit text OddLength = length text % 2 ≡ 1
Unfit text NoDigit = (length text % 2 ≡ 0) × (HexDigits text → ⊥)
Unfit text Memory = Unit {0}
