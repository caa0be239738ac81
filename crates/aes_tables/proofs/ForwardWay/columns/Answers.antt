use Rattle.std.proofs.Common.{refl}
use Rattle.aes_tables.specs.Field.{sub, inverse, mul}
use Rattle.aes_tables.specs.Columns.{each_byte, column_tables}
use Rattle.aes_tables.proofs.ForwardWay.columns.Goals as goal

pub returns : goal.returns
unfolding each_byte column_tables sub inverse mul
returns c = refl
