use Rattle.aes_tables.proofs.Places.{column_is}
use Rattle.aes_tables.proofs.column.Goals as goal

pub returns : goal.returns
returns g c =
    column_is g.W.Way.matrix g.W.Way.substitution c.columns.result.now c.columns.ensures c.diagonal.result c.args.a c.args.b c.args.c c.args.d c.args.k c.diagonal.ensures
