use Rattle.std.proofs.Common.{◌*◌, ◌<◌, vec_items, sym, subst, arith, rules}
use Rattle.octets.specs.Little.{Bytes}
use Rattle.card.specs.Buffers.{count_in}
use Rattle.card.specs.Flatness.{AllBytes, flat_count, flat_room, refilled, refilled_flat, paste_bytes}
use Rattle.card.proofs.flat.FlatCard.replace.Goals as goal

pub copy_in-requires-clause-within : goal.copy_in-requires-clause-within
copy_in-requires-clause-within c = omega (arith, flat_count (vec_items c.args.self.now.bytes), c.requires.within)

pub invariant_of-self : goal.invariant_of-self
invariant_of-self c =
    let bs = vec_items c.args.self.now.bytes in
    let v = c.args.bytes.now in
    let n = c.args.n in
    let bytes : Bytes 520 v = (c.requires.long, λ k h. search rules) in
    let within : n < count_in bs = omega (arith, flat_count bs, c.requires.within) in
    let a = refilled _ bs c.as_mut_slice.result.now _ v n (search rules) c.as_mut_slice.ensures.value within c.requires.long c.copy_in.ensures in
    record { sound = subst AllBytes (sym a) (paste_bytes bs v (n * 520) 520 (flat_room bs n within) bytes c.args.self.now.sound) }

pub returns : goal.returns
returns c =
    let bs = vec_items c.args.self.now.bytes in
    let v = c.args.bytes.now in
    let n = c.args.n in
    let within : n < count_in bs = omega (arith, flat_count bs, c.requires.within) in
    let a = refilled _ bs c.as_mut_slice.result.now _ v n (search rules) c.as_mut_slice.ensures.value within c.requires.long c.copy_in.ensures in
    refilled_flat bs v _ n within c.requires.long a
