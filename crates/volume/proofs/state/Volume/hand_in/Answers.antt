use Rattle.std.proofs.Common.{refl}
use Rattle.volume.proofs.Kept.{keeps}
use Rattle.volume.proofs.state.Volume.hand_in.Goals as goal

pub returns : goal.returns
returns g c =
    let k = g.K.LoadedKey in
    let l = g.met.K.LoadedKey in
    let m = g.S.Card in
    record { does = refl; shows = (keeps k l.byte l.inverse l.keyed m g.met.S.Card.sound c.args.self.now _).hands_in refl }
