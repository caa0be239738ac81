use Rattle.std.proofs.Common.{refl}
use Rattle.aes_tables.specs.Field.{sub, inverse, mul}
use Rattle.aes.specs.Aes.{aes, rounds, expanded, changed}
use Rattle.aes.proofs.vector_stands.Goals as goal

pub returns : goal.returns
unfolding aes rounds expanded changed sub inverse mul
returns c = refl
