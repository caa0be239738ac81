-- Speck keeps the law of a cipher: a round is undone by its way back, and so are the 34 rounds.
use Rattle.std.specs.Prelude.{◌≡◌, ℕ, ◌^◌, ◌<◌}
use Rattle.cipher.specs.Maps.{Inverse}
use Rattle.speck.specs.Speck.{Pair, round, round_back, speck, speck_back}
use Rattle.speck.specs.Rounds as rounds
use Rattle.speck.specs.Rounds.{Fit}
use Rattle.speck.specs.Laws.{inverse_by}

pub round_fit : (k : ℕ) (p : Pair) → k < 2 ^ 64 → Fit p → Fit (round k p)
round_fit = rounds.round_fit

pub undone : (k : ℕ) (p : Pair) → k < 2 ^ 64 → Fit p → round_back k (round k p) ≡ p
undone = rounds.undone

pub redone : (k : ℕ) (p : Pair) → k < 2 ^ 64 → Fit p → round k (round_back k p) ≡ p
redone = rounds.redone

pub speck_inverse : Inverse speck speck_back
speck_inverse = inverse_by (record { fit = round_fit; back_fit = rounds.round_back_fit; undone = undone; redone = redone })
