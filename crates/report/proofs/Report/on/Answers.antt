-- The log has the one entry that is reported.
use Rattle.std.proofs.Common.{vec_items}
use Rattle.keys.specs.Rings.{suite_of}
use Rattle.volume.specs.States.{state_of}
use Rattle.history.specs.Scripts.{held_stage}
use Rattle.report.proofs.Single.{reported}
use Rattle.report.proofs.Report.on.Goals as goal

pub returns : goal.returns
returns g c =
    let k = g.K.LoadedKey in
    let m = g.S.Card in
    reported (suite_of k) (state_of k m c.args.drive.now.volume) (held_stage c.args.drive.now.permit) c.args.work.now c.args.call c.of.result
    (state_of k m c.run.new.self.volume) (held_stage c.run.new.self.permit) c.run.new.work
    (vec_items c.in_ok-log.log) c.index.result.now c.in_ok-log.ensures c.index.ensures c.of.ensures
