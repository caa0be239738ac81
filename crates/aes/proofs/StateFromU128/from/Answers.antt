use Rattle.std.proofs.Common.{ℕ, List, ◌/◌, ◌^◌, ◌++◌, sym, ap, ◌∙◌, ap₂}
use lib.Bits.{and_mask}
use Rattle.octets.specs.Little.{le_bytes}
use Rattle.aes.proofs.Blocks.{four_words, low_word}
use Rattle.aes.proofs.StateFromU128.from.Goals as goal

pub returns : goal.returns
returns c =
    let x = c.args.block in
    ap₂ ◌++◌ (low_word x _ (sym (and_mask x 32)))
    (ap₂ ◌++◌ (low_word (x / 2 ^ 32) _ (sym (and_mask (x / 2 ^ 32) 32)))
    (ap (λ (w : List ℕ). w ++ le_bytes 4 (x / 2 ^ 96)) (low_word (x / 2 ^ 64) _ (sym (and_mask (x / 2 ^ 64) 32)))))
    ∙ four_words x
