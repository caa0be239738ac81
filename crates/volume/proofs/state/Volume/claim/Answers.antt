use Rattle.volume.specs.Answers.{stage_of}
use Rattle.volume.specs.States.{state_of}
use Rattle.volume.proofs.Kept.{keeps}
use Rattle.volume.proofs.state.Volume.claim.Goals as goal

pub returns : goal.returns
returns g c =
    let k = g.K.LoadedKey in
    let l = g.met.K.LoadedKey in
    let m = g.S.Card in
    let done = c.hand_out.ensures in
    record { does = done; shows = (keeps k l.byte l.inverse l.keyed m g.met.S.Card.sound c.args.self.now (state_of k m c.hand_out.new.self)).claims (stage_of c.hand_out.result) done }
