use Rattle.volume.specs.States.{state_of}
use Rattle.volume.proofs.Kept.{keeps}
use Rattle.volume.proofs.state.Volume.finish.Goals as goal

pub returns : goal.returns
returns g c =
    let k = g.K.LoadedKey in
    let l = g.met.K.LoadedKey in
    let m = g.S.Card in
    let done = c.put_finished.ensures in
    rw c.exchanged.ensures
    record { does = done; shows = (keeps k l.byte l.inverse l.keyed m g.met.S.Card.sound c.args.self.now (state_of k m c.put_finished.new.self)).finishes done.0 c.put_finished.result done.1 }
