use Rattle.xts.proofs.Laws.{each_undoes_the_other}
use Rattle.xts.proofs.each_undoes_the_other.Goals as goal

pub returns : goal.returns
returns g c = each_undoes_the_other g.C.Cipher.forward g.C.Cipher.back g.met.C.Cipher.inverse
