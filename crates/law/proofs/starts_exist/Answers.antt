use Rattle.law.proofs.Lives.{starts_exist}
use Rattle.law.proofs.starts_exist.Goals as goal

pub returns : goal.returns
returns c = starts_exist
