use Rattle.octets.specs.Little.{le_bytes}
use Rattle.speck.specs.Speck.{round_key, pair_of}
use Rattle.speck.proofs.Turns.{Left}
use Rattle.speck.proofs.SpeckCipher.decipher_number.Given as goal

abbrev pub invariant-loop-k : goal.invariant-loop-k
invariant-loop-k l = Left (round_key l.self.bytes) 34 l.k-iterator.iter.rest.now l.words (pair_of (le_bytes 16 l.block))
