use Rattle.cipher.proofs.Blocks.{by_number}
use Rattle.cipher.proofs.Cipher.decipher.Goals as goal

pub returns : goal.returns
returns g c =
    let m = g.Self.Cipher in
    by_number (m.back (m.key c.args.self.now)) c.args.block.now _ c.block_number.result c.decipher_number.result (c.told-block, λ i h. c.fits-block i)
    c.block_number.ensures c.decipher_number.ensures c.block_bytes.ensures
