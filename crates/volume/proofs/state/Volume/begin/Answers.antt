use Rattle.volume.specs.States.{state_of}
use Rattle.volume.proofs.Kept.{keeps}
use Rattle.volume.proofs.state.Volume.begin.Goals as goal

pub returns : goal.returns
returns g c =
    let k = g.K.LoadedKey in
    let l = g.met.K.LoadedKey in
    let m = g.S.Card in
    let done = c.put_begun.ensures in
    rw c.exchanged.ensures
    record { does = done; shows = (keeps k l.byte l.inverse l.keyed m g.met.S.Card.sound c.args.self.now (state_of k m c.put_begun.new.self)).begins done.0 c.put_begun.result done.1 }
