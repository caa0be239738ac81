use Rattle.std.proofs.Common.{◌≡◌, ℕ, length, replicate, ap, ◌∙◌, sym, subst, rules}
use Rattle.keys.specs.Rings.{suite_of}
use Rattle.law.specs.Calls.{Stepped}
use Rattle.volume.specs.States.{state_of}
use Rattle.volume.proofs.Kept.{keeps}
use Rattle.volume.proofs.state.Volume.step.Goals as goal

pub returns : goal.returns
returns g c =
    let k = g.K.LoadedKey in
    let l = g.met.K.LoadedKey in
    let m = g.S.Card in
    let v = state_of k m c.args.self.now in
    let w = state_of k m c.move_one-reply.new.self in
    let long : length c.args.work.now ≡ 520 = search rules in
    let done = c.move_one-reply.ensures.does in
    record {
      does = (done.0, subst (λ (n : ℕ). Stepped (suite_of k) v n done.0 c.move_one-reply.result w) (sym long) done.1);
      wiped = (λ e. c.fill.ensures.after (λ y h. h) ∙ ap (λ (n : ℕ). replicate n 0) c.move_one-reply.ensures.long, λ n. absurd (n long));
      shows = (keeps k l.byte l.inverse l.keyed m g.met.S.Card.sound c.args.self.now (state_of k m c.move_one-reply.new.self)).steps 520 done.0 c.move_one-reply.result done.1;
    }
