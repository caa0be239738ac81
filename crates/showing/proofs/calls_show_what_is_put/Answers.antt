use Rattle.showing.proofs.Theorems.{calls_show}
use Rattle.showing.proofs.calls_show_what_is_put.Goals as goal

pub returns : goal.returns
returns _ = calls_show
