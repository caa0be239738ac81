-- The trailer: the record in the last sector of a whole store, which says how many data sectors there are and under
-- which key each of them lies.
use Rattle.std.specs.Prelude.{◌≡◌, ℕ, ◌+◌, ◌<◌, ◌≤◌, Bool, true, false, cond, not, ◌&&◌, List, ◌∷◌, ◌++◌, take, drop, replicate, Some, None, Option, ◌==◌, nat_le, nat_lt, slice_index}
use Rattle.std.specs.Str.{bytes_eq}
use Rattle.octets.specs.Little.{le_number, le_bytes, all_are}
use Rattle.trailer.specs.declared.stage.Stage.{Stage}
use Rattle.trailer.specs.declared.stage.Stage.TheVariants.{Resting, Changing}
use Rattle.trailer.specs.declared.kept.Trailer.{Trailer}
use Rattle.trailer.specs.Stages.{stage_number}

pub record Fields : Type 0 where
  -- whether the key is at rest or changing
  pub stage : Stage
  -- the reach: how many data sectors there are
  pub reach : ℕ
  -- the watermark: while the key changes, the data sectors below it lie under the new key
  pub watermark : ℕ
  -- the check of the volume's key, and while the key changes that of the new one
  pub first : List ℕ
  pub second : List ℕ
  -- any sixteen bytes
  pub label : List ℕ

-- the fields of a trailer held in memory
abbrev pub fields : Trailer → Fields
fields t =
    record { stage = t.stage; reach = t.reach; watermark = t.watermark; first = t.first; second = t.second; label = t.label }

-- The 520 bytes: the cipher's number at 456, the stage at 457, the form, 1, at 458, the reach at 460, the watermark at
-- 464, the checks at 472 and 488, the label at 504, and zeros elsewhere.
unfoldable pub encode : ℕ → Fields → List ℕ
encode cipher t =
    replicate 456 0
    ++ (cipher ∷ stage_number t.stage ∷ 1 ∷ 0
    ∷ (le_bytes 4 t.reach ++ (le_bytes 4 t.watermark ++ (replicate 4 0 ++ (t.first ++ (t.second ++ t.label))))))

-- n bytes from a place on
abbrev pub field : ℕ → ℕ → List ℕ → List ℕ
field from n s = take n (drop from s)

unfoldable pub decode : List ℕ → Fields
decode s =
    record {
      stage = cond (slice_index s 457 == 0) Resting Changing;
      reach = le_number (field 460 4 s);
      watermark = le_number (field 464 4 s);
      first = field 472 16 s;
      second = field 488 16 s;
      label = field 504 16 s;
    }

-- the cipher's number, the form, and the bytes that are zero
abbrev pub framed : ℕ → List ℕ → Bool
framed cipher s =
    all_are 0 (take 456 s) && (slice_index s 456 == cipher && (slice_index s 458 == 1 && (slice_index s 459 == 0 && all_are 0 (field 468 4 s))))

-- what the stage asks: at rest no watermark and no second check; while changing a watermark not above the reach, and
-- checks that differ
abbrev pub staged : ℕ → Fields → Bool
staged stage t =
    cond (stage == 0) (t.watermark == 0 && all_are 0 t.second)
    (stage == 1 && (nat_le t.watermark t.reach && not (bytes_eq t.first t.second)))

-- the stage of a sector whose fields are as it asks
abbrev pub StagedAs : List ℕ → Option Stage → Type 0
StagedAs s None = staged (slice_index s 457) (decode s) ≡ false
StagedAs s (Some stage) = (staged (slice_index s 457) (decode s) ≡ true) × (stage ≡ (decode s).stage)

-- Whether sector s, the last one, with number T, is a valid trailer under the cipher of this number.
unfoldable pub valid : ℕ → ℕ → List ℕ → Bool
valid cipher T s =
    framed cipher s && (nat_le 1 (decode s).reach && (nat_le (decode s).reach T && staged (slice_index s 457) (decode s)))

-- what is made of a sector
abbrev pub Decoded : ℕ → ℕ → List ℕ → Option Trailer → Type 0
Decoded cipher T s None = valid cipher T s ≡ false
Decoded cipher T s (Some t) = (valid cipher T s ≡ true) × (fields t ≡ decode s)

-- the check of the key that data sector i lies under
abbrev pub named_by : Stage → Fields → ℕ → List ℕ
named_by Resting t i = t.first
named_by Changing t i = cond (nat_lt i t.watermark) t.second t.first

abbrev pub named : Fields → ℕ → List ℕ
named t i = named_by t.stage t i

-- the trailers that the calls of a volume put: of a format
abbrev pub fresh : ℕ → List ℕ → List ℕ → Fields
fresh reach check label =
    record { stage = Resting; reach = reach; watermark = 0; first = check; second = replicate 16 0; label = label }

-- of a begin, with the check of the new key
abbrev pub begun : Fields → List ℕ → Fields
begun t check =
    record { stage = Changing; reach = t.reach; watermark = 0; first = t.first; second = check; label = t.label }

-- of a step
abbrev pub moved : Fields → Fields
moved t =
    record { stage = Changing; reach = t.reach; watermark = t.watermark + 1; first = t.first; second = t.second; label = t.label }

-- of a finish
abbrev pub finished : Fields → Fields
finished t =
    record { stage = Resting; reach = t.reach; watermark = 0; first = t.second; second = replicate 16 0; label = t.label }

-- a step moves the watermark, where a sector is left below the reach
abbrev pub MovesOn : Fields → Option Trailer → Type 0
MovesOn t None = t.reach ≤ t.watermark
MovesOn t (Some u) = (t.watermark < t.reach) × (fields u ≡ moved t)
