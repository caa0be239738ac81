use Rattle.std.proofs.Common.{◌<◌, length, arith}
use Rattle.xts.proofs.Steps.{last_whole, walked_tail}
use Rattle.xts.proofs.blocks.Way.finish.Goals as goal

pub returns-then-end-eq16 : goal.returns-then-end-eq16
returns-then-end-eq16 g c = last_whole (g.Self.Way.map c.args.cipher.now) g.Self.Way.BACK c.args.t c.args.end.now c.change_first.new.unit c.if-end-eq16.true c.change_first.ensures

pub returns-then-BACK : goal.returns-then-BACK
returns-then-BACK g c =
    let long : 16 < length c.args.end.now = omega arith in
    rw (walked_tail (g.Self.Way.map c.args.cipher.now) g.Self.Way.BACK c.args.t c.args.end.now long, ← c.if-BACK.ensures, ← c.doubled.ensures) c.steal.ensures

pub returns-else-BACK : goal.returns-else-BACK
returns-else-BACK g c =
    let long : 16 < length c.args.end.now = omega arith in
    rw (walked_tail (g.Self.Way.map c.args.cipher.now) g.Self.Way.BACK c.args.t c.args.end.now long, ← c.if-BACK.ensures, ← c.doubled-else-BACK.ensures) c.steal-else-BACK.ensures
