-- A buffer of bytes as a card: sectors that follow one another, as many as fit, at most 4,096, with the power on.
use Rattle.std.specs.Prelude.{ℕ, ◌*◌, ◌/◌, min, true, List, map, length, take, drop}
use Rattle.std.specs.List.{range_with_len}
use Rattle.card.specs.Meaning.{Meaning}

abbrev pub sector_in : List ℕ → ℕ → List ℕ
sector_in bytes k = take 520 (drop (k * 520) bytes)

abbrev pub count_in : List ℕ → ℕ
count_in bytes = min (length bytes / 520) 4096

abbrev pub flat : List ℕ → Meaning
flat bytes = record { sectors = map (sector_in bytes) (range_with_len 0 (count_in bytes)); power = true }
