use Rattle.std.proofs.Common.{◌≡◌, ℕ, sym, ap, ◌∙◌, ap₂, add-one, arith}
use Rattle.octets.specs.Little.{xored}
use Rattle.aes.specs.Words.{bytes_of}
use Rattle.aes.specs.Passes.{round_by, last_by, rounds_by}
use Rattle.aes.proofs.RoundKeys.pass.Goals as goal

pub loop-key-init : goal.loop-key-init
unfolding rounds_by
loop-key-init g c key h = c.bitxor-s.ensures ∙ ap (xored (bytes_of c.args.block)) h.0

pub loop-key-preserved : goal.loop-key-preserved
unfolding rounds_by
loop-key-preserved g c key h =
    let f = g.W.Way.substitution in
    let cs = g.W.Way.matrix in
    let i = c.loop-key.key-index in
    c.full_round-s.ensures ∙ ap₂ (round_by f cs) (c.loop-key.invariant key h) (h.1 i _ c.loop-key-test.true ∙ ap key (add-one i))
    ∙ ap (λ (n : ℕ). rounds_by f cs key n (bytes_of c.args.block)) (sym (add-one i))

pub returns : goal.returns
returns g c key h =
    let f = g.W.Way.substitution in
    let cs = g.W.Way.matrix in
    let e : c.loop-key.key-index ≡ 13 = omega arith in
    c.last_round.ensures ∙ ap₂ (last_by f) (c.loop-key.invariant key h ∙ ap (λ (n : ℕ). rounds_by f cs key n (bytes_of c.args.block)) e) h.2
