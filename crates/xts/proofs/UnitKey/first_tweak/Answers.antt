use Rattle.std.proofs.Common.{◌^◌, ◌<◌, sym, ap, ◌∙◌, rules}
use Rattle.octets.specs.Little.{le_number}
use Rattle.octets.proofs.Numbers.{number_bytes}
use Rattle.xts.proofs.UnitKey.first_tweak.Goals as goal

pub returns : goal.returns
returns g c =
    let r = c.encipher_number.result in
    let small : r < 2 ^ 128 = search rules in
    sym (number_bytes 16 r small) ∙ ap le_number c.encipher_number.ensures
