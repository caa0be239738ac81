use Rattle.std.proofs.Common.{ℕ, ◌-◌, List, sym, refl, ap, ◌∙◌, subst, arith}
use Rattle.octets.specs.Little.{Bytes}
use Rattle.card.specs.Meaning.{Meaning, at}
use Rattle.volume.proofs.Looks.{none_seen, within}
use Rattle.volume.proofs.state.Volume.look.Goals as goal

pub returns-then-total-eq0 : goal.returns-then-total-eq0
returns-then-total-eq0 g c =
    let counted = c.in_ok-total.ensures in
    record { store = (counted.0, counted.1, none_seen _ (g.S.Card.meaning c.args.self.now.store) (omega arith)); keys = refl; out = refl }

pub invariant_of-result : goal.invariant_of-result
invariant_of-result g c =
    let counted = c.in_ok-total.ensures in
    let said = c.in-Some.ensures in
    let end = c.in_ok-total.total - 1 in
    let there = c.in_ok-read.ensures.4 ∙ ap (λ (z : Meaning). at z end) counted.1 in
    let sector = subst (λ (s : List ℕ). Bytes 520 s) (sym there) ((g.met.S.Card.sound c.args.self.now.store).each end (omega arith)) in
    record { room = within c.own_number.result end _ c.in-Some.trailer sector said.0 said.1 }
