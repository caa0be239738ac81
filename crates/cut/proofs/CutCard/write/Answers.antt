use Rattle.std.proofs.Common.{ap, rules}
use Rattle.octets.specs.Little.{Bytes}
use Rattle.cut.specs.Cuts.{state_of}
use Rattle.cut.proofs.Cutting.{lost_write}
use Rattle.cut.proofs.CutCard.write.Goals as goal

pub returns-in-Some : goal.returns-in-Some
returns-in-Some g c =
    let m = g.C.Card.meaning in
    let ok = c.in_ok-test.ensures in
    let fired = c.in-Some.ensures in
    let sector : Bytes 520 c.args.bytes.now = (ok.0.0, λ i h. search rules) in
    let both = lost_write (state_of m c.args.self.now) (state_of m c.test.new.self) (state_of m c.step.new.self) (state_of m c.lose.new.self)
    c.in-Some.loss c.args.n c.args.bytes.now sector ok.0 ok.1 fired.0 (ap m fired.1) c.lose.ensures.same c.lose.ensures.left in
    record { card = both.0; cut = both.1 }
