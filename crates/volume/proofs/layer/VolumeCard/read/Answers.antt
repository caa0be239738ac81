use Rattle.volume.specs.States.{state_of}
use Rattle.volume.proofs.Kept.{cards}
use Rattle.volume.proofs.layer.VolumeCard.read.Goals as goal

pub returns : goal.returns
returns g c =
    let k = g.K.LoadedKey in
    let l = g.met.K.LoadedKey in
    let m = g.S.Card in
    let done = c.open_into.ensures in
    record {
      shows = (cards k l.byte l.inverse l.keyed m g.met.S.Card.sound c.args.self.now (state_of k m c.open_into.new.self)).reads c.args.n c.args.buf.now c.open_into.new.buf c.open_into.result done.does done.keeps;
      does = done.does;
      keeps = done.keeps;
    }
