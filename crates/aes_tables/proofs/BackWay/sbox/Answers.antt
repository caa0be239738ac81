use Rattle.std.proofs.Common.{refl}
use Rattle.aes_tables.specs.Field.{sub_back, inverse, mul}
use Rattle.aes_tables.specs.Columns.{each_byte}
use Rattle.aes_tables.proofs.BackWay.sbox.Goals as goal

pub returns : goal.returns
unfolding each_byte sub_back inverse mul
returns c = refl
