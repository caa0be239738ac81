use Rattle.std.proofs.Common.{◌≡◌, refl, ◌∙◌}
use Rattle.octets.specs.Little.{le_bytes}
use Rattle.journal.specs.Slips.{slip_bytes}
use Rattle.octets.proofs.Numbers.{bytes4_is}
use Rattle.journal.proofs.slip.laid_out.Goals as goal

pub returns : goal.returns
unfolding slip_bytes
returns c =
    let e : c.copy_from_slice.new.self ≡ le_bytes 4 c.args.first = c.copy_from_slice.ensures.after ∙ (c.to_le_bytes.ensures ∙ bytes4_is c.args.first) in
    let f : c.copy_from_slice-2.new.self ≡ le_bytes 4 c.args.second = c.copy_from_slice-2.ensures.after ∙ (c.to_le_bytes-2.ensures ∙ bytes4_is c.args.second) in
    rw (e, f) (refl {a = slip_bytes c.args.kind c.args.first c.args.second})
