use Rattle.std.proofs.Common.{◌+◌, ◌*◌, ◌<◌, ◌≤◌, length, vec_items, refl, sym, ap, ◌∙◌, arith, rules}
use Rattle.card.specs.Buffers.{count_in, sector_in}
use Rattle.card.specs.Flatness.{flat_count, flat_at, flat_room}
use Rattle.card.proofs.flat.FlatCardCard.read.Goals as goal

pub copy_out-requires-clause-within : goal.copy_out-requires-clause-within
copy_out-requires-clause-within c =
    let bs = vec_items c.args.self.now.bytes in
    let h : c.args.n < count_in bs = omega (arith, flat_count bs) in
    let r : c.args.n * 520 + 520 ≤ length bs = flat_room bs _ h in
    rw c.as_slice.ensures.value (omega arith)

pub returns : goal.returns
returns c =
    let bs = vec_items c.args.self.now.bytes in
    let h : c.args.n < count_in bs = omega (arith, flat_count bs) in
    (search rules, refl, search rules, refl, c.copy_out.ensures ∙ ap (λ s. sector_in s c.args.n) c.as_slice.ensures.value ∙ sym (flat_at bs _ h))
