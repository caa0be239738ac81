use Rattle.trailer.proofs.Fields.{encoding_stays}
use Rattle.trailer.proofs.encoding_stays.Goals as goal

pub returns : goal.returns
returns c = encoding_stays
