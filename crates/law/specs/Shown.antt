-- What a volume shows: it is again a card, of the deciphered data sectors.
use Rattle.std.specs.Prelude.{ℕ, cond, ◌&&◌, List, map}
use Rattle.std.specs.List.{range_with_len}
use Rattle.card.specs.Meaning.{Meaning, at}
use Rattle.law.specs.Suites.{Suite, opened}
use Rattle.law.specs.States.{State, valid, fit, trailer, place, key_at}

-- the number of sectors that it shows: none where the trailer is not valid or the keys do not fit
abbrev pub counted : Suite → State → ℕ
counted c v = cond (valid c v && fit c v) (trailer v).reach 0

-- what data sector i shows
abbrev pub shown_at : Suite → State → ℕ → List ℕ
shown_at c v i = opened c (key_at c v i) i (at v.store (place v (trailer v).reach i))

unfoldable pub shown : Suite → State → List (List ℕ)
shown c v = map (shown_at c v) (range_with_len 0 (counted c v))

abbrev pub as_card : Suite → State → Meaning
as_card c v = record { sectors = shown c v; power = v.store.power }
