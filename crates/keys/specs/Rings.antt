-- The loaded keys as a list of their bytes.
use Rattle.std.specs.Prelude.{ℕ, List, [], ◌∷◌, Some, None, Option}
use Rattle.std.specs.Borrow.{Bor}
use Rattle.law.specs.Suites.{Suite, suite}
use Rattle.keys.specs.declared.LoadedKey.{Ghosts}
use Rattle.keys.specs.declared.ring.Keyring.{Keyring}
use Rattle.keys.specs.declared.ring.Keyring.TheVariants.{Empty, One, Two}

-- the cipher of a kind of loaded key
abbrev pub suite_of : {K : Type 0} → Ghosts K → Suite
suite_of k = suite k.numbered k.forward k.back

-- in the order loaded
abbrev pub keys_of : {K : Type 0} → (K → List ℕ) → Keyring K → List (List ℕ)
keys_of bytes Empty = []
keys_of bytes (One a) = bytes a ∷ []
keys_of bytes (Two a b) = bytes a ∷ bytes b ∷ []

-- the bytes of a key that is lent, if one is
abbrev pub lent_key : {K : Type 0} → (K → List ℕ) → Option (Bor K) → Option (List ℕ)
lent_key bytes None = None
lent_key bytes (Some k) = Some (bytes k.now)

abbrev pub head_of : List (List ℕ) → Option (List ℕ)
head_of [] = None
head_of (k ∷ ks) = Some k
