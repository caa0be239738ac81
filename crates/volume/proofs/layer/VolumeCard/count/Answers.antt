use Rattle.volume.specs.States.{state_of}
use Rattle.volume.proofs.Kept.{cards}
use Rattle.volume.proofs.layer.VolumeCard.count.Goals as goal

pub returns : goal.returns
returns g c =
    let k = g.K.LoadedKey in
    let l = g.met.K.LoadedKey in
    let m = g.S.Card in
    let done = c.shown_count.ensures in
    record { shows = (cards k l.byte l.inverse l.keyed m g.met.S.Card.sound c.args.self.now (state_of k m c.shown_count.new.self)).counts c.shown_count.result done; does = done }
