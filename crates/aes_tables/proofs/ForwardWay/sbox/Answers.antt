use Rattle.std.proofs.Common.{refl}
use Rattle.aes_tables.specs.Field.{sub, inverse, mul}
use Rattle.aes_tables.specs.Columns.{each_byte}
use Rattle.aes_tables.proofs.ForwardWay.sbox.Goals as goal

pub returns : goal.returns
unfolding each_byte sub inverse mul
returns c = refl
