use Rattle.std.proofs.Common.{arith, rules}
use Rattle.journal.proofs.Commits.{unseen_spares, spared_down, unseen_down, stage_put}
use Rattle.journal.proofs.Journal.stage.Goals as goal

pub write_all-requires : goal.write_all-requires
write_all-requires g c = unseen_spares _ _ c.args.put _ c.requires.down c.on_spares.ensures

pub write_unseen-requires : goal.write_unseen-requires
write_unseen-requires g c =
    let r = c.requires.down.room in
    let d = spared_down _ _ _ c.args.put _ c.requires.down c.on_spares.ensures c.in_ok-write_all.ensures.1 in
    unseen_down _ _ _ d (omega arith) (omega arith)

pub returns : goal.returns
returns g c =
    let w = c.in_ok-write_all.ensures in
    stage_put _ _ _ _ _ c.args.put _ _ _ c.write_unseen.result c.slip-2.ensures c.targets.ensures (omega arith) c.on_spares.ensures c.requires.down (search rules) c.requires.fit
    w.0 w.1 w.2 c.write_unseen.ensures
