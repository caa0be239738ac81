use Rattle.showing.proofs.Cards.{power_up_card}
use Rattle.law.specs.States.{storing}
use Rattle.keys.specs.Rings.{suite_of}
use Rattle.volume.specs.States.{state_of}
use Rattle.volume.proofs.Powers.{powered}
use Rattle.volume.proofs.layer.VolumeCard.power_up.Goals as goal

pub returns : goal.returns
returns g c =
    let k = g.K.LoadedKey in
    let m = g.S.Card in
    let c' = suite_of k in
    let v = state_of k m c.args.self.now in
    let n = m.meaning c.power_up.new.self in
    let done = powered c' v n c.power_up.result c.power_up.ensures in
    record { shows = power_up_card c' v (storing v n) c.power_up.result done; does = done }
