use Rattle.std.proofs.Common.{◌<◌, ◌≢◌, length, sym, refl, ap, ◌∙◌, add-one, arith, length-set, get_or-set_other, get_or-set_same, below_none, below_more}
use Rattle.speck.specs.Speck.{Keys, keys_next, keys_at}
use Rattle.speck.proofs.round_keys.Goals as goal

pub loop-i-init : goal.loop-i-init
unfolding keys_at
loop-i-init c = (refl, c.from-state.ensures, below_none _)

pub loop-i-preserved : goal.loop-i-preserved
unfolding keys_at
loop-i-preserved c =
    let v = c.loop-i.invariant in
    let i = c.loop-i.i in (
      length-set _ _ _ ∙ v.0,
      c.next-state.ensures ∙ ap (keys_next i) v.1 ∙ ap (keys_at c.args.key.now) (sym (add-one i)),
      below_more _ _ (λ j h. let ne : j ≢ i = omega arith in rw get_or-set_other (v.2 j h))
          (let lt : i < length c.loop-i.k-items = omega arith in rw get_or-set_same (ap (λ (s : Keys). s.k) (c.state.view_is ∙ v.1))),
    )
