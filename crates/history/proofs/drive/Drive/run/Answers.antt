use Rattle.std.proofs.Common.{ℕ, length, vec_items, subst, rules}
use Rattle.keys.specs.Rings.{suite_of}
use Rattle.law.specs.Suites.{Proper}
use Rattle.volume.specs.States.{state_of}
use Rattle.volume.specs.Steadiness.{steady}
use Rattle.history.specs.Scripts.{told, Happens, held_stage}
use Rattle.history.proofs.Plays.{logged_to, calls_to, held_to, worked_to, played}
use Rattle.history.proofs.drive.Drive.run.Goals as goal

pub loop-call-preserved : goal.loop-call-preserved
loop-call-preserved g c =
    let k = g.K.LoadedKey in
    let m = g.S.Card in
    let c' = suite_of k in
    let size = length c.args.work.now in
    let v = state_of k m c.args.self.now.volume in
    let w = state_of k m c.loop-call.self.volume in
    let x = state_of k m c.make-entry.new.self.volume in
    let i = c.loop-call.invariant in
    let e = c.make-entry.result in
    let made = c.make-entry.ensures in
    let pushed = c.push_reserved.ensures.items in
    let happens = subst (λ (n : ℕ). Happens c' w (told n e) x) i.4 made.happens in (
      search rules,
      search rules,
      search rules,
      search (rules, calls_to),
      search rules,
      logged_to c' size v (vec_items c.loop-call.log) (vec_items c.push_reserved.new.self) w x e i.5 happens (steady k g.met.K.LoadedKey.keyed m g.met.S.Card.sound c.make-entry.new.self.volume) pushed,
      held_to (vec_items c.loop-call.log) (vec_items c.push_reserved.new.self) e (held_stage c.args.self.now.permit) (held_stage c.loop-call.self.permit) (held_stage c.make-entry.new.self.permit) i.6 made.held pushed,
      worked_to (vec_items c.loop-call.log) (vec_items c.push_reserved.new.self) e c.args.work.now c.loop-call.work c.make-entry.new.work i.7 made.works pushed,
    )

pub returns : goal.returns
returns g c =
    let k = g.K.LoadedKey in
    let m = g.S.Card in
    let c' = suite_of k in
    let proper : Proper c' = record { number = g.met.K.LoadedKey.byte; inverse = g.met.K.LoadedKey.inverse } in
    let i = c.loop-call.invariant in
    played c' proper (state_of k m c.args.self.now.volume) (steady k g.met.K.LoadedKey.keyed m g.met.S.Card.sound c.args.self.now.volume)
    (held_stage c.args.self.now.permit) c.args.work.now c.args.script.now (vec_items c.loop-call.log) (state_of k m c.loop-call.self.volume)
    (held_stage c.loop-call.self.permit) c.loop-call.work c.loop-call.call-index i.5 i.3 (search rules) i.6 i.7
