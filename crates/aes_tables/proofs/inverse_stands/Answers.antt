use Rattle.std.proofs.Common.{◌≡◌, false, cond, eqb, refl, ap, ◌∙◌, arith, ne_eqb}
use Rattle.aes_tables.specs.Field.{mul, inverse}
use Rattle.aes_tables.proofs.Inverses.{mul_inverse, inverse_lt}
use Rattle.aes_tables.proofs.inverse_stands.Goals as goal

pub returns : goal.returns
unfolding mul inverse
returns c = (
  refl,
  λ a pos lt.
      let e : eqb a 0 ≡ false = ne_eqb a 0 (λ (z : a ≡ 0). omega arith) in
      (inverse_lt a lt, mul_inverse a lt ∙ ap (λ b. cond b 0 1) e),
)
