use Rattle.std.proofs.Common.{refl, rules}
use Rattle.volume.specs.States.{state_of}
use Rattle.volume.proofs.Kept.{puts}
use Rattle.volume.proofs.state.Volume.format.Goals as goal

pub returns : goal.returns
returns g c =
    let k = g.K.LoadedKey in
    let l = g.met.K.LoadedKey in
    let m = g.S.Card in
    let done = c.put_fresh.ensures in
    record {
      does = done;
      shows = (puts k l.byte l.inverse l.keyed m g.met.S.Card.sound c.args.self.now (state_of k m c.put_fresh.new.self)).formats c.args.reach c.args.label.now done.0 c.put_fresh.result (refl, λ i h. search rules) done.1;
    }
