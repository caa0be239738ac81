use Rattle.std.proofs.Common.{◌<◌, List, ℕ, get_or, ap, ◌∙◌, rules}
use Rattle.aes_tables.proofs.Tests.{byte_entry}
use Rattle.aes_tables.proofs.substituted.Goals as goal

pub returns : goal.returns
returns g c =
    let x = c.args.x in
    let h : x < 256 = search rules in
    ap (λ (t : List ℕ). get_or t x 0) c.sbox.ensures ∙ byte_entry g.W.Way.substitution x 0 h
