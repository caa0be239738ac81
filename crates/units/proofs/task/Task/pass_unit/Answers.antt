-- Each way of XTS is the map of its direction, over the slices that the task lends.
use Rattle.units.specs.declared.task.Direction.TheVariants.{Forward, Back}
use Rattle.units.proofs.Lent.{lent}
use Rattle.units.proofs.task.Task.pass_unit.Goals as goal

pub returns-in-Forward : goal.returns-in-Forward
returns-in-Forward g c =
    simp c.in-Forward.is (lent g.C.Cipher.forward g.C.Cipher.back Forward c.args.number _ c.deref.result.now _ c.deref-in-Forward.result.now _ _ _ c.deref.ensures.value c.deref-in-Forward.ensures.value c.encipher.ensures)

pub returns-in-Back : goal.returns-in-Back
returns-in-Back g c =
    simp c.in-Back.is (lent g.C.Cipher.forward g.C.Cipher.back Back c.args.number _ c.deref-in-Back.result.now _ c.deref-in-Back-2.result.now _ _ _ c.deref-in-Back.ensures.value c.deref-in-Back-2.ensures.value c.decipher.ensures)
