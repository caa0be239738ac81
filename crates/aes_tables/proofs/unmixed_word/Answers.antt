use Rattle.std.proofs.Common.{◌^◌, ◌<◌, rules}
use Rattle.aes_tables.proofs.Places.{unmixed_is}
use Rattle.aes_tables.proofs.unmixed_word.Goals as goal

pub returns : goal.returns
returns c =
    let h : c.column.result < 2 ^ 32 = search rules in
    unmixed_is c.column.result c.sub_word-s.result c.args.w h c.sub_word-s.ensures c.column.ensures
