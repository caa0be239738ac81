use Rattle.trailer.proofs.ByBytes.{validity_by_bytes}
use Rattle.trailer.proofs.validity_by_bytes.Goals as goal

pub returns : goal.returns
returns c = validity_by_bytes
