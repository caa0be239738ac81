use Rattle.std.proofs.Common.{not, eqb, leb, get_or, ◌∙◌, rules}
use Rattle.std.specs.Str.{bytes_eq}
use Rattle.std.proofs.lemmas.Bool.{eq-eqb, ne_eqb, le-leb, lt-leb}
use Rattle.octets.specs.Little.{all_are}
use Rattle.trailer.specs.Trailers.{decode, field}
use Rattle.trailer.proofs.Tests.{no_stage, kept_is, second_counts, first_counts, rests_is, changes_is}
use Rattle.trailer.proofs.sector.staged.Goals.{in-Resting+then-watermark-eq0, in-Resting+else-watermark-eq0, in-Changing+then-watermark-number_at, in-Changing+else-watermark-number_at}
use Rattle.trailer.proofs.sector.staged.Goals as goal

pub returns-in_default : goal.returns-in_default
returns-in_default c = no_stage (get_or c.args.s.now 457 0) (decode c.args.s.now) c.in_default.ensures.1

pub returns : goal.returns
unfolding decode
returns c =
    let s = c.args.s.now in
    let x = get_or s 457 0 in
    let w = c.number_at-watermark.result in
    let first = field 472 16 s in
    let second = field 488 16 s in
    rw c.then_some.ensures
    (kept_is s c.in-Ok.stage c.match-stage.kept c.in-Ok.ensures
    (elim c.match-stage.branch [
      | in-Resting+then-watermark-eq0 b ↦ second_counts (eqb w 0) (all_are 0 second) _ (eq-eqb w 0 (search rules)) (search rules) ∙ rests_is x w (decode s) (search rules) (search rules)
      | in-Resting+else-watermark-eq0 b ↦ b.kept-is ∙ first_counts (eqb w 0) (all_are 0 second) (ne_eqb w 0 (search rules)) ∙ rests_is x w (decode s) (search rules) (search rules)
      | in-Changing+then-watermark-number_at b ↦ second_counts (leb w b.number_at.result) (not (bytes_eq first second)) _ (le-leb w b.number_at.result (search rules)) (search rules) ∙ changes_is x w b.number_at.result (decode s) (search rules) (search rules) (search rules)
      | in-Changing+else-watermark-number_at b ↦ b.kept-is ∙ first_counts (leb w b.number_at.result) (not (bytes_eq first second)) (lt-leb w b.number_at.result (search rules)) ∙ changes_is x w b.number_at.result (decode s) (search rules) (search rules) (search rules)
    ]))
