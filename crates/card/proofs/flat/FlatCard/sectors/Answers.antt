use Rattle.std.proofs.Common.{vec_items, arith}
use Rattle.card.specs.Flatness.{flat_count}
use Rattle.card.proofs.flat.FlatCard.sectors.Goals as goal

pub returns : goal.returns
returns c = omega (arith, flat_count (vec_items c.args.self.now.bytes), c.min.ensures, c.len.ensures)
