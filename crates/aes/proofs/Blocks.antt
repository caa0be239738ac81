-- Blocks in words.
use Rattle.std.proofs.Common.{◌≡◌, ℕ, ◌+◌, ◌*◌, ◌/◌, ◌%◌, ◌^◌, ◌<◌, ◌++◌, sym, ap, ◌∙◌, ap₂, arith}
use lib.Bits.{bit_or, or_shifted_r}
use native.Mathlib.Nat.{div-div-eq-div-mul}
use Rattle.octets.specs.Little.{le_bytes}
use Rattle.octets.proofs.Numbers.{bytes_low}
use Rattle.aes.specs.Aes.{four}

pub four_words : (x : ℕ) → four x (x / 2 ^ 32) (x / 2 ^ 64) (x / 2 ^ 96) ≡ le_bytes 16 x
four_words x = simp div-div-eq-div-mul

pub low_word : (x w : ℕ) → x % 2 ^ 32 ≡ w → le_bytes 4 w ≡ le_bytes 4 x
low_word x w e = ap (le_bytes 4) (sym e) ∙ bytes_low 4 x

pub words_joined : (x a b c d : ℕ) → a < 2 ^ 32 → b < 2 ^ 32 → c < 2 ^ 32 → d < 2 ^ 32 → x ≡ d * 2 ^ 96 + (c * 2 ^ 64 + (b * 2 ^ 32 + a)) → le_bytes 16 x ≡ four a b c d
words_joined x a b c d ha hb hc hd e =
    sym (four_words x)
    ∙ sym (ap₂ ◌++◌ (low_word x a (omega arith)) (ap₂ ◌++◌ (low_word (x / 2 ^ 32) b (omega arith)) (ap₂ ◌++◌ (low_word (x / 2 ^ 64) c (omega arith)) (low_word (x / 2 ^ 96) d (omega arith)))))

shifted_in : (k low high : ℕ) → low < 2 ^ k → (high * 2 ^ k) % 2 ^ 128 ≡ high * 2 ^ k → bit_or low (high * 2 ^ k % 2 ^ 128) ≡ high * 2 ^ k + low
shifted_in k low high h e = ap (bit_or low) e ∙ or_shifted_r high k low h

pub words_or : (a b c d : ℕ) → a < 2 ^ 32 → b < 2 ^ 32 → c < 2 ^ 32 → d < 2 ^ 32
    → bit_or (bit_or (bit_or a (b * 2 ^ 32 % 2 ^ 128)) (c * 2 ^ 64 % 2 ^ 128)) (d * 2 ^ 96 % 2 ^ 128) ≡ d * 2 ^ 96 + (c * 2 ^ 64 + (b * 2 ^ 32 + a))
words_or a b c d ha hb hc hd =
    ap (λ (x : ℕ). bit_or (bit_or x (c * 2 ^ 64 % 2 ^ 128)) (d * 2 ^ 96 % 2 ^ 128)) (shifted_in 32 a b ha (omega arith))
    ∙ ap (λ (x : ℕ). bit_or x (d * 2 ^ 96 % 2 ^ 128)) (shifted_in 64 (b * 2 ^ 32 + a) c (omega arith) (omega arith))
    ∙ shifted_in 96 (c * 2 ^ 64 + (b * 2 ^ 32 + a)) d (omega arith) (omega arith)
