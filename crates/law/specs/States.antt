-- What a volume is, for its laws: its store, the loaded keys, and whether a permit is out.
use Rattle.std.specs.Prelude.{◌≡◌, ℕ, ◌+◌, ◌-◌, Bool, true, cond, ◌&&◌, ◌⊎◌, List, [], ◌∷◌, is_some, Some, None, Option}
use Rattle.std.specs.Option.{unwrap_or}
use Rattle.std.specs.Str.{bytes_eq}
use Rattle.octets.specs.Little.{Bytes}
use Rattle.card.specs.Meaning.{Meaning, Sound, count, at}
use Rattle.trailer.specs.declared.stage.Stage.{Stage}
use Rattle.trailer.specs.declared.stage.Stage.TheVariants.{Resting, Changing}
use Rattle.trailer.specs.Trailers as trailers
use Rattle.trailer.specs.Trailers.{Fields, decode, named}
use Rattle.law.specs.Suites.{Suite, check}

pub record State : Type 0 where
  pub store : Meaning
  -- none, one or two keys of 64 bytes, in the order loaded
  pub keys : List (List ℕ)
  pub out : Bool

-- x is one of the list
abbrev pub Among : {A : Type 0} → A → List A → Type 0
Among x [] = ⊥
Among x (y ∷ ys) = (x ≡ y) ⊎ Among x ys

-- what holds of every volume whose store keeps its law
pub record Steady (v : State) : Type 0 where
  pub store : Sound v.store
  pub keys : (k : List ℕ) → Among k v.keys → Bytes 64 k

-- the volume with another store, with other keys, and with a permit out or in
abbrev pub storing : State → Meaning → State
storing v m = record { store = m; keys = v.keys; out = v.out }

abbrev pub keyed : State → List (List ℕ) → State
keyed v ks = record { store = v.store; keys = ks; out = v.out }

abbrev pub lent : State → Bool → State
lent v b = record { store = v.store; keys = v.keys; out = b }

-- the number of a store's last sector, T: 0 where it has none
abbrev pub last : Meaning → ℕ
last m = count m - 1

-- the trailer is the last sector
abbrev pub trailer : State → Fields
trailer v = decode (at v.store (last v.store))

-- the store's sector that is data sector i of a volume of this reach
abbrev pub place : State → ℕ → ℕ → ℕ
place v reach i = last v.store - reach + i

module _ (c : Suite) where
  -- the first of the keys that has this check
  abbrev pub having : List ℕ → List (List ℕ) → Option (List ℕ)
  having x [] = None
  having x (k ∷ ks) = cond (bytes_eq (check c k) x) (Some k) (having x ks)

  -- the first of the keys that has another check
  abbrev pub other : List ℕ → List (List ℕ) → Option (List ℕ)
  other x [] = None
  other x (k ∷ ks) = cond (bytes_eq (check c k) x) (other x ks) (Some k)

  -- one of the keys has the first check and, while the key changes, one has the second
  abbrev pub second_fits : Stage → List (List ℕ) → Fields → Bool
  second_fits Resting ks t = true
  second_fits Changing ks t = is_some (having t.second ks)

  abbrev pub fitting : List (List ℕ) → Fields → Bool
  fitting ks t = is_some (having t.first ks) && second_fits t.stage ks t

  abbrev pub valid : State → Bool
  valid v = trailers.valid c.number (last v.store) (at v.store (last v.store))

  -- the loaded keys fit the trailer
  abbrev pub fit : State → Bool
  fit v = fitting v.keys (trailer v)

  -- the loaded key that has this check
  abbrev pub key_of : State → List ℕ → List ℕ
  key_of v x = unwrap_or (having x v.keys) []

  -- the loaded key that data sector i lies under
  abbrev pub key_at : State → ℕ → List ℕ
  key_at v i = key_of v (named (trailer v) i)
