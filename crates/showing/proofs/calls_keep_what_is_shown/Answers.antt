use Rattle.showing.proofs.Theorems.{calls_keep}
use Rattle.showing.proofs.calls_keep_what_is_shown.Goals as goal

pub returns : goal.returns
returns _ = calls_keep
