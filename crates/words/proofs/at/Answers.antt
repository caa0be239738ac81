use Rattle.std.proofs.Common.{rules}
use Rattle.words.proofs.Places.{word_got}
use Rattle.words.proofs.at.Goals as goal

pub returns : goal.returns
returns c = word_got c.args.words.now c.args.place c.get.result c.copied.result _ c.unwrap_or.result c.get.ensures.lookup c.copied.ensures (search rules) c.unwrap_or.ensures
