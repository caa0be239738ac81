use Rattle.std.proofs.Common.{◌≡◌, ◌-◌, length, take}
use Rattle.aes.specs.Aes.{expanded}
use Rattle.aes.proofs.expand.Given as goal

abbrev pub invariant-loop-n : goal.invariant-loop-n
invariant-loop-n l = (length l.words ≡ 60) × (take l.n l.words ≡ expanded l.bytes (l.n - 8))
