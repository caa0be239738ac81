use Rattle.std.proofs.Common.{vec_items, rules}
use Rattle.std.specs.Slice.Iter.{chunks_exact_rest}
use Rattle.hex_text.proofs.Pairs.{goes_more, goes_end}
use Rattle.hex_text.proofs.decode.Goals as goal

pub loop-digits-preserved : goal.loop-digits-preserved
loop-digits-preserved c = (
  search rules,
  goes_more c.args.text.now (chunks_exact_rest c.loop-digits.digits-iterator) (vec_items c.loop-digits.bytes) c.in-Some.digits.now (chunks_exact_rest c.next.new.self) (vec_items c.push.new.self) c.pair.result c.in_ok-byte.byte
      c.loop-digits.invariant.1 (search rules) (search rules) (search rules) (search rules) (search rules),
)

pub returns : goal.returns
returns c = goes_end c.args.text.now (chunks_exact_rest c.loop-digits.digits-iterator) (vec_items c.loop-digits.bytes) c.loop-digits.invariant.1 (search rules)
