use Rattle.std.proofs.Common.{◌≡◌}
use Rattle.octets.specs.Little.{le_bytes}
use Rattle.speck.specs.Speck.{rounds, round_key, pair_of}
use Rattle.speck.proofs.SpeckCipher.encipher_number.Given as goal

abbrev pub invariant-loop-k : goal.invariant-loop-k
invariant-loop-k l = l.words ≡ rounds (round_key l.self.bytes) l.k-index (pair_of (le_bytes 16 l.fn.block))
