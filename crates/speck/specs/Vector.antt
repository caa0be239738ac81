-- The test vector of the Speck paper of 2013 for Speck128/256, in our byte order.
use Rattle.std.specs.Prelude.{◌≡◌, ℕ, List, [], ◌∷◌}
use Rattle.std.specs.List.{range_with_len}
use Rattle.speck.specs.Speck.{speck}

abbrev pub key : List ℕ
key = range_with_len 0 32

abbrev pub plain : List ℕ
plain = 0x70 ∷ 0x6f ∷ 0x6f ∷ 0x6e ∷ 0x65 ∷ 0x72 ∷ 0x2e ∷ 0x20 ∷ 0x49 ∷ 0x6e ∷ 0x20 ∷ 0x74 ∷ 0x68 ∷ 0x6f ∷ 0x73 ∷ 0x65 ∷ []

abbrev pub secret : List ℕ
secret = 0x43 ∷ 0x8f ∷ 0x18 ∷ 0x9c ∷ 0x8d ∷ 0xb4 ∷ 0xee ∷ 0x4e ∷ 0x3e ∷ 0xf5 ∷ 0xc0 ∷ 0x05 ∷ 0x04 ∷ 0x01 ∷ 0x09 ∷ 0x41 ∷ []

abbrev pub VectorHolds : Type 0
VectorHolds = speck key plain ≡ secret
