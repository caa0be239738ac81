use Rattle.xts.proofs.Steps.{tail_stolen}
use Rattle.xts.proofs.blocks.Way.steal.Goals as goal

pub returns : goal.returns
returns g c =
    let halves = c.split_at_mut-block.ensures in
    let swap = c.swap_with_slice.ensures in
    tail_stolen (g.Self.Way.map c.args.cipher.now) c.args.one c.args.other c.args.end.now c.change_first.new.unit _ _ _ _ c.change_first-2.new.unit c.requires.0 c.requires.1 c.change_first.auto.unit
    c.change_first.ensures halves.front halves.back swap.after swap.other_after c.change_first-2.ensures
