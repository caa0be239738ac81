use Rattle.std.proofs.Common.{arith}
use Rattle.xts.proofs.Steps.{turn}
use Rattle.xts.proofs.blocks.Way.walk.Goals as goal

pub loop-j-preserved : goal.loop-j-preserved
loop-j-preserved g c =
    turn (g.Self.Way.map c.args.cipher.now) g.Self.Way.BACK c.loop-j.t c.doubled-t.result _ c.loop-j.j c.loop-j.unit c.change_first.new.unit _ c.loop-j-test.true
    (omega arith) c.change_first.auto.unit c.change_first.ensures c.doubled-t.ensures c.loop-j.invariant
