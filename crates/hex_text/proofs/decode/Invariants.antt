use Rattle.std.proofs.Common.{◌≡◌, vec_items}
use Rattle.std.specs.Slice.Iter.{chunks_exact_rest, chunks_exact_size}
use Rattle.hex_text.proofs.Pairs.{Goes}
use Rattle.hex_text.proofs.decode.Given as goal

abbrev pub invariant-loop-digits : goal.invariant-loop-digits
invariant-loop-digits l = (chunks_exact_size l.digits-iterator ≡ 2) × Goes l.text (chunks_exact_rest l.digits-iterator) (vec_items l.bytes)
