use Rattle.xts.specs.Xts.{check}
use Rattle.xts.proofs.UnitKey.check.Goals as goal

pub returns : goal.returns
unfolding check
returns g c = c.pass.ensures
