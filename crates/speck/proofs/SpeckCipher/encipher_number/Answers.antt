use Rattle.std.proofs.Common.{◌≡◌, ℕ, ◌<◌, ap, ◌∙◌, arith}
use Rattle.octets.specs.Little.{le_bytes}
use Rattle.speck.specs.Speck.{pair_of, round, rounds, round_key, block_of, speck}
use Rattle.speck.proofs.Turns.{turn}
use Rattle.speck.proofs.SpeckCipher.encipher_number.Goals as goal

pub loop-k-init : goal.loop-k-init
unfolding rounds
loop-k-init c = c.from-words.ensures

pub loop-k-preserved : goal.loop-k-preserved
loop-k-preserved c =
    let s = c.args.self.now in
    let i = c.loop-k.k-index in
    let h : i < 34 = omega arith in
    turn (round_key s.bytes) i _ _ _ c.loop-k.invariant (c.round-words.ensures ∙ ap (λ (k : ℕ). round k c.loop-k.words) (s.scheduled i h))

pub returns : goal.returns
unfolding speck
returns c =
    let e : c.loop-k.k-index ≡ 34 = omega arith in
    c.from.ensures ∙ ap block_of (c.loop-k.invariant ∙ ap (λ (n : ℕ). rounds (round_key c.args.self.now.bytes) n (pair_of (le_bytes 16 c.args.block))) e)
