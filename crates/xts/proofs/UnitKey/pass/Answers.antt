use Rattle.xts.proofs.Steps.{passed_is}
use Rattle.xts.proofs.UnitKey.pass.Goals as goal

pub returns : goal.returns
returns g c =
    let m = g.C.Cipher in
    let k = c.args.self.now in
    passed_is m.forward m.back (m.key k.key1) (m.key k.key2) c.args.number c.args.unit.now c.walk.new.unit (g.met.C.Cipher.keyed k.key1).0 g.W.Way.BACK
    (g.W.Way.map k.key1) c.first_tweak.result (g.met.W.Way.either k.key1) c.first_tweak.ensures c.walk.ensures
