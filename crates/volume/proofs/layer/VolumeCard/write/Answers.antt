use Rattle.std.proofs.Common.{refl, rules}
use Rattle.volume.specs.States.{state_of}
use Rattle.volume.proofs.Kept.{puts, cards}
use Rattle.volume.proofs.layer.VolumeCard.write.Goals as goal

pub returns : goal.returns
returns g c =
    let k = g.K.LoadedKey in
    let l = g.met.K.LoadedKey in
    let m = g.S.Card in
    let done = c.put_sealed.ensures in
    record {
      shows = (cards k l.byte l.inverse l.keyed m g.met.S.Card.sound c.args.self.now (state_of k m c.put_sealed.new.self)).writes c.args.n c.args.bytes.now done.0 c.put_sealed.result (refl, λ i h. search rules) done.1;
      does = done;
      written = (puts k l.byte l.inverse l.keyed m g.met.S.Card.sound c.args.self.now (state_of k m c.put_sealed.new.self)).writes c.args.n c.args.bytes.now done.0 c.put_sealed.result (refl, λ i h. search rules) done.1;
    }
