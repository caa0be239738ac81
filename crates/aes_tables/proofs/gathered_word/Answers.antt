use Rattle.std.proofs.Common.{◌≡◌, ◌<◌, ℕ, get_or, ap, ◌∙◌, rules, arith}
use Rattle.aes_tables.specs.Columns.{gathered}
use Rattle.aes_tables.proofs.Places.{gathered_is}
use Rattle.aes_tables.proofs.gathered_word.Goals as goal

pub returns : goal.returns
returns g c =
    let f = g.W.Way.substitution in
    let a = c.args in
    let e = c.diagonal.ensures in
    let s = c.map.result in
    let called = c.map.ensures.items.at in
    let each : (i : ℕ) → i < 4 → get_or s i 0 ≡ f (get_or (gathered (λ x. x) a.a a.b a.c a.d) i 0) = λ i h.
    let k = called i 0 0 h in
    let met : get_or s i 0 ≡ f (get_or c.diagonal.result i 0) = search rules in
    met ∙ ap (λ t. f (get_or t i 0)) e in
    gathered_is f c.from_le_bytes.result (get_or s 0 0) (get_or s 1 0) (get_or s 2 0) (get_or s 3 0) a.a a.b a.c a.d c.from_le_bytes.ensures
    (search rules) (search rules) (search rules) (search rules) (each 0 (omega arith)) (each 1 (omega arith)) (each 2 (omega arith)) (each 3 (omega arith))
