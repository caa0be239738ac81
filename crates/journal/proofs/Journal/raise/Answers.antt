use Rattle.std.proofs.Common.{ℕ, refl, subst, replicate, rules}
use Rattle.card.specs.Calls.{WroteAt}
use Rattle.journal.proofs.Commits.{lifted}
use Rattle.journal.proofs.Journal.raise.Goals as goal

pub returns : goal.returns
returns g c =
    let m = g.C.Card.meaning in
    let d = c.requires in
    let wrote : WroteAt (m c.args.self.now.card) (m c.write.new.self) c.flag.result (replicate 520 165) c.write.result = search rules in
    lifted _ _ _ _ c.write.result (record { total = d.total; room = d.room; flag = d.flag; slipped = refl })
    (subst (λ (k : ℕ). WroteAt (m c.args.self.now.card) (m c.write.new.self) k (replicate 520 165) c.write.result) c.flag.ensures wrote)
