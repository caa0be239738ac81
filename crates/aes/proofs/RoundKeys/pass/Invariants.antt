use Rattle.std.proofs.Common.{◌≡◌, ℕ, List}
use Rattle.aes.specs.Words.{bytes_of, KeysAre}
use Rattle.aes.specs.Passes.{rounds_by}
use Rattle.aes.proofs.RoundKeys.pass.Given as goal

abbrev pub invariant-loop-key : goal.invariant-loop-key
invariant-loop-key g l = (key : ℕ → List ℕ) → KeysAre l.fn.self key → bytes_of l.s ≡ rounds_by g.W.Way.substitution g.W.Way.matrix key l.key-index (bytes_of l.fn.block)
