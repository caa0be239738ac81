use Rattle.xts.proofs.Laws.{enciphers_block_by_block, deciphers_block_by_block}
use Rattle.xts.proofs.block_by_block.Goals as goal

pub returns : goal.returns
returns g c =
    let m = g.C.Cipher in
    record {
      enciphering = enciphers_block_by_block m.forward m.back g.met.C.Cipher.inverse;
      deciphering = deciphers_block_by_block m.forward m.back g.met.C.Cipher.inverse;
    }
