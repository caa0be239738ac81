use Rattle.std.proofs.Common.{◌≡◌, true, sym, ◌∙◌, arith, rules}
use Rattle.octets.specs.Little.{Bytes}
use Rattle.trailer.specs.Trailers.{decode, valid}
use Rattle.trailer.proofs.Fields.{valid_from}
use Rattle.trailer.proofs.Tests.{not_framed, not_reaching, not_staged, valid_within, same_fields}
use Rattle.trailer.proofs.kept.Trailer.decode.Goals as goal

pub returns-then-not-framed : goal.returns-then-not-framed
returns-then-not-framed c = not_framed c.args.cipher c.args.last c.args.sector.now (search rules)

pub returns-then-reach-lt1 : goal.returns-then-reach-lt1
unfolding decode
returns-then-reach-lt1 c =
    let r = c.number_at-reach.ensures in
    not_reaching c.args.cipher c.args.last c.args.sector.now (λ some room. omega arith)

pub returns-in_err-stage : goal.returns-in_err-stage
returns-in_err-stage c = rw c.from_residual.ensures (not_staged c.args.cipher c.args.last c.args.sector.now c.in_err-stage.ensures)

pub invariant_of-result : goal.invariant_of-result
unfolding decode
invariant_of-result c =
    let s = c.args.sector.now in
    let whole : Bytes 520 s = (c.told-sector, λ k h. c.fits-sector k) in
    let r = c.number_at-reach.ensures in
    let w = c.number_at.ensures in
    let ok : valid c.args.cipher c.args.last s ≡ true = valid_from c.args.cipher c.args.last s (sym c.framed.ensures ∙ c.if-not-framed.false) (omega arith) (omega arith) c.in_ok-stage.ensures.0 in
    let small = valid_within c.args.cipher c.args.last s whole ok in
    record { within = omega arith }

pub returns : goal.returns
unfolding decode
returns c =
    let s = c.args.sector.now in
    let r = c.number_at-reach.ensures in (
      valid_from c.args.cipher c.args.last s (sym c.framed.ensures ∙ c.if-not-framed.false) (omega arith) (omega arith) c.in_ok-stage.ensures.0,
      same_fields _ (decode s) c.in_ok-stage.ensures.1 (search rules) (search rules) (search rules) (search rules) (search rules),
    )
