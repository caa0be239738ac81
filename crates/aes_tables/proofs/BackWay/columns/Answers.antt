use Rattle.std.proofs.Common.{refl}
use Rattle.aes_tables.specs.Field.{sub_back, inverse, mul}
use Rattle.aes_tables.specs.Columns.{each_byte, column_tables}
use Rattle.aes_tables.proofs.BackWay.columns.Goals as goal

pub returns : goal.returns
unfolding each_byte column_tables sub_back inverse mul
returns c = refl
