use Rattle.history.proofs.drive.Drive.make.Goals as goal

pub returns-in-Claim : goal.returns-in-Claim
returns-in-Claim g c = rw c.in-Claim.is (c.claim.ensures c.args.work.now)

pub returns-in-Begin : goal.returns-in-Begin
returns-in-Begin g c = rw c.in-Begin.is (c.begin.ensures c.args.work.now)

pub returns-in-Finish : goal.returns-in-Finish
returns-in-Finish g c = rw c.in-Finish.is (c.finish.ensures c.args.work.now)

pub returns-in-HandIn : goal.returns-in-HandIn
returns-in-HandIn g c = rw c.in-HandIn.is (c.hand_in.ensures c.args.work.now)
