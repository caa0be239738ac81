use Rattle.std.proofs.Common.{◌≡◌, ◌-◌, ◌*◌, ◌++◌, take, drop}
use Rattle.xts.specs.Xts.{walked}
use Rattle.xts.proofs.blocks.Way.walk.Given as goal

abbrev pub invariant-loop-j : goal.invariant-loop-j
invariant-loop-j g l =
    let f = g.Self.Way.map l.cipher in
    let back = g.Self.Way.BACK in
    take (16 * l.j) l.unit ++ walked f back l.t (l.before_last - l.j) (drop (16 * l.j) l.unit) ≡ walked f back l.first l.before_last l.initial.unit
