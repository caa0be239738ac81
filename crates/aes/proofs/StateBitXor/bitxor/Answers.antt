use Rattle.std.proofs.Common.{◌++◌, ap₂}
use Rattle.octets.proofs.Numbers.{bytes_xor}
use Rattle.aes.proofs.StateBitXor.bitxor.Goals as goal

pub returns : goal.returns
returns c =
    let s = c.args.self in
    let k = c.args.key in
    ap₂ ◌++◌ (bytes_xor 4 s.a k.a) (ap₂ ◌++◌ (bytes_xor 4 s.b k.b) (ap₂ ◌++◌ (bytes_xor 4 s.c k.c) (bytes_xor 4 s.d k.d)))
