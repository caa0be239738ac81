use Rattle.law.proofs.Lives.{change_can_end}
use Rattle.law.proofs.change_can_end.Goals as goal

pub returns : goal.returns
returns c = change_can_end
