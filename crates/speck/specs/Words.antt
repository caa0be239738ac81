-- Rotation of words of 64 bits.
use Rattle.std.specs.Prelude.{ℕ, ◌+◌, ◌-◌, ◌*◌, ◌/◌, ◌%◌, ◌^◌}

-- x rotated right by k places
abbrev pub rotr : ℕ → ℕ → ℕ
rotr k x = x / 2 ^ k + (x % 2 ^ k) * 2 ^ (64 - k)

-- x rotated left by k places
abbrev pub rotl : ℕ → ℕ → ℕ
rotl k x = rotr (64 - k) x
