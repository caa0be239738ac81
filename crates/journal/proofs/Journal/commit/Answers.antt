use Rattle.std.proofs.Common.{rules}
use Rattle.journal.proofs.Settles.{unseen_target, second_covered}
use Rattle.journal.proofs.Commits.{raised_up, may_lower}
use Rattle.journal.proofs.Journal.commit.Goals as goal

pub write_all-requires : goal.write_all-requires
write_all-requires g c =
    let u = raised_up _ _ _ _ c.requires.ready c.in_ok-raise.ensures.1 in (unseen_target _ _ _ u, second_covered _ _ c.args.put _ u)

pub lower-requires : goal.lower-requires
lower-requires g c =
    let r = c.in_ok-raise.ensures in
    may_lower _ _ _ _ c.args.put c.requires.ready c.requires.spared r.1 r.3 (search rules)
