use Rattle.std.proofs.Common.{ap, ◌∙◌, rules}
use Rattle.speck.specs.Speck.{round_key, block_of, speck_back}
use Rattle.speck.proofs.Turns.{all_left, one_back, none_left}
use Rattle.speck.proofs.SpeckCipher.decipher_number.Goals as goal

pub loop-k-init : goal.loop-k-init
loop-k-init c =
    let s = c.args.self.now in
    all_left (round_key s.bytes) 34 s.keys _ c.from-words.result _ (search rules) s.scheduled (search rules) c.from-words.ensures

pub loop-k-preserved : goal.loop-k-preserved
loop-k-preserved c =
    one_back (round_key c.args.self.now.bytes) 34 _ _ c.in-Some.k.now c.loop-k.words _ _ c.in-Some.ensures.steps c.round_back-words.ensures c.loop-k.invariant

pub returns : goal.returns
unfolding speck_back
returns c =
    c.from.ensures ∙ ap block_of (none_left (round_key c.args.self.now.bytes) 34 _ c.loop-k.words _ c.in-None.ensures.steps.0 c.loop-k.invariant)
