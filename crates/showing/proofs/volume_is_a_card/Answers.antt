use Rattle.showing.proofs.Theorems.{is_a_card}
use Rattle.showing.proofs.volume_is_a_card.Goals as goal

pub returns : goal.returns
returns _ = is_a_card
