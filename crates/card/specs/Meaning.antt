-- What a card means: its sectors, and whether its power is on. Nothing above a card knows more of it.
use Rattle.std.specs.Prelude.{ℕ, ◌^◌, ◌<◌, Bool, true, false, List, [], length, slice_index_or, slice_set}
use Rattle.octets.specs.Little.{Bytes}

pub record Meaning : Type 0 where
  pub sectors : List (List ℕ)
  pub power : Bool

-- a sector is 520 bytes
abbrev pub Sector : List ℕ → Type 0
Sector s = Bytes 520 s

-- what holds of every card: its sectors are sectors, and their number fits 32 bits
pub record Sound (m : Meaning) : Type 0 where
  pub few : length m.sectors < 2 ^ 32
  pub each : (n : ℕ) → n < length m.sectors → Sector (slice_index_or m.sectors n [])

abbrev pub count : Meaning → ℕ
count m = length m.sectors

-- sector n
abbrev pub at : Meaning → ℕ → List ℕ
at m n = slice_index_or m.sectors n []

-- sector n replaced
abbrev pub put : Meaning → ℕ → List ℕ → Meaning
put m n v = record { sectors = slice_set m.sectors n v; power = m.power }

-- the same sectors with the power off, and with it on
abbrev pub off : Meaning → Meaning
off m = record { sectors = m.sectors; power = false }

abbrev pub on : Meaning → Meaning
on m = record { sectors = m.sectors; power = true }
