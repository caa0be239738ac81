use Rattle.std.proofs.Common.{arith}
use Rattle.journal.proofs.Settles.{unseen_target, as_two, unseen_second, first_copied, replayed_one, replayed_two}
use Rattle.journal.proofs.Journal.replay.Goals as goal

pub copy_unseen-requires-clause-still : goal.copy_unseen-requires-clause-still
copy_unseen-requires-clause-still g c = unseen_target _ _ _ c.requires

pub copy_unseen-requires-in-Some-clause-still : goal.copy_unseen-requires-in-Some-clause-still
copy_unseen-requires-in-Some-clause-still g c =
    unseen_second _ _ _ _ (as_two _ _ _ _ (first_copied _ _ _ _ _ c.requires c.first_spare.ensures c.in_ok-copy_unseen.ensures.1) c.in-Some.is)

pub returns-in-None : goal.returns-in-None
returns-in-None g c =
    let w = c.in_ok-copy_unseen.ensures in
    (w.0, replayed_one _ _ _ _ _ c.requires c.in-None.is c.first_spare.ensures w.1, w.2)

pub returns-in-Some : goal.returns-in-Some
returns-in-Some g c =
    let w = c.in_ok-copy_unseen.ensures in
    replayed_two _ _ _ _ _ _ _ _ c.copy_unseen-in-Some.result c.requires c.in-Some.is (omega arith) (omega arith) w.0 w.1 w.2 c.copy_unseen-in-Some.ensures
