use Rattle.std.proofs.Common.{◌≡◌, ℕ, ◌<◌, length, get_or}
use Rattle.speck.specs.Speck.{keys_at, round_key}
use Rattle.speck.proofs.round_keys.Given as goal

abbrev pub invariant-loop-i : goal.invariant-loop-i
invariant-loop-i l =
    (length l.k-items ≡ 34) × (l.state ≡ keys_at l.key l.i) × ((j : ℕ) → j < l.i → get_or l.k-items j 0 ≡ round_key l.key j)
