-- What holds of the trailer's bytes: what is encoded is decoded, and what a valid sector's bytes are.
use Rattle.std.specs.Prelude.{◌≡◌, ℕ, ◌+◌, ◌^◌, ◌<◌, ◌≤◌, true, ◌≢◌, ◌⊎◌, ◌↔◌, List, replicate, slice_index, slice_index_or}
use Rattle.octets.specs.Little.{Bytes, le_number}
use Rattle.trailer.specs.declared.stage.Stage.{Stage}
use Rattle.trailer.specs.declared.stage.Stage.TheVariants.{Resting, Changing}
use Rattle.trailer.specs.Trailers.{Fields, encode, decode, field, valid}

-- the fields fit their places
pub record Ranged (t : Fields) : Type 0 where
  pub reach : t.reach < 2 ^ 32
  pub watermark : t.watermark < 2 ^ 32
  pub first : Bytes 16 t.first
  pub second : Bytes 16 t.second
  pub label : Bytes 16 t.label

-- what the stage asks
abbrev pub Staged : Stage → Fields → Type 0
Staged Resting t = (t.watermark ≡ 0) × (t.second ≡ replicate 16 0)
Staged Changing t = (t.watermark ≤ t.reach) × (t.first ≢ t.second)

-- what is encoded is a sector of bytes, valid, and decoded to the same fields
pub record Stays (cipher T : ℕ) (t : Fields) : Type 0 where
  pub sector : Bytes 520 (encode cipher t)
  pub valid : valid cipher T (encode cipher t) ≡ true
  pub back : decode (encode cipher t) ≡ t

-- for every cipher number that is a byte, every last sector T, and all fields that fit and keep the rules
abbrev pub EncodingStays : Type 0
EncodingStays =
    (cipher T : ℕ) (t : Fields) → cipher < 256 → Ranged t → 1 ≤ t.reach → t.reach ≤ T → Staged t.stage t → Stays cipher T t

-- n bytes from a place on are zero
abbrev pub Zero : ℕ → ℕ → List ℕ → Type 0
Zero from n s = (k : ℕ) → k < n → slice_index s (from + k) ≡ 0

-- at rest: stage 0, no watermark, and a second check of zeros
abbrev pub Rests : List ℕ → Type 0
Rests s = (slice_index s 457 ≡ 0) × (le_number (field 464 4 s) ≡ 0) × Zero 488 16 s

-- while changing: stage 1, a watermark not above the reach, and checks that differ
abbrev pub Changes : List ℕ → Type 0
Changes s = (slice_index s 457 ≡ 1) × (le_number (field 464 4 s) ≤ le_number (field 460 4 s)) × (field 472 16 s ≢ field 488 16 s)

-- byte by byte, what a valid trailer is under a cipher's number, as the last sector, with number T
pub record Valid (cipher T : ℕ) (s : List ℕ) : Type 0 where
  pub numbered : slice_index_or s 456 0 ≡ cipher
  pub form : (slice_index s 458 ≡ 1) × (slice_index s 459 ≡ 0)
  pub front : Zero 0 456 s
  pub gap : Zero 468 4 s
  pub some : 1 ≤ le_number (field 460 4 s)
  pub room : le_number (field 460 4 s) ≤ T
  pub stage : Rests s ⊎ Changes s

abbrev pub ValidityByBytes : Type 0
ValidityByBytes = (cipher T : ℕ) (s : List ℕ) → Bytes 520 s → (valid cipher T s ≡ true) ↔ Valid cipher T s
