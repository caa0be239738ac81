-- What a journal shows of the N sectors of the card below it. The last four are its own: sectors N - 4 and N - 3 are the
-- spares, N - 2 is the slip and N - 1 the flag. The others are the places.
use Rattle.std.specs.Prelude.{◌≡◌, ℕ, ◌-◌, ◌≤◌, Bool, false, cond, List, [], length, take, Some, None, Option, Ok, Err, Result, slice_index_or, slice_set}
use Rattle.refusal.specs.declared.Refusal.{Refusal}
use Rattle.card.specs.Meaning.{Meaning, count}
use Rattle.octets.specs.Little.{all_are}
use Rattle.journal.specs.declared.Journal.{Journal}
use Rattle.journal.specs.declared.slip.Targets.{Targets}
use Rattle.journal.specs.Slips.{slip_of}

-- the sectors that the journal shows when nothing is pending; a card of fewer than five has none
abbrev pub places : List (List ℕ) → List (List ℕ)
places xs = take (length xs - 4) xs

-- the new bytes of the first target
abbrev pub first_spare : List (List ℕ) → List ℕ
first_spare xs = slice_index_or xs (length xs - 4) []

-- the new bytes of the second target
abbrev pub second_spare : List (List ℕ) → List ℕ
second_spare xs = slice_index_or xs (length xs - 3) []

-- which targets the slip says
abbrev pub slip : List (List ℕ) → Option Targets
slip xs = slip_of (length xs - 4) (slice_index_or xs (length xs - 2) [])

-- whether the flag is raised
abbrev pub raised : List (List ℕ) → Bool
raised xs = all_are 165 (slice_index_or xs (length xs - 1) [])

-- what is pending: what the slip says, while the flag is raised
abbrev pub pending_of : List (List ℕ) → Option Targets
pending_of xs = cond (raised xs) (slip xs) None

-- the sectors zs, with y at the second target
abbrev pub over_second : Option ℕ → List ℕ → List (List ℕ) → List (List ℕ)
over_second None y zs = zs
over_second (Some b) y zs = slice_set zs b y

-- the sectors zs, with x at the first target and y at the second
abbrev pub overlay : Option Targets → List ℕ → List ℕ → List (List ℕ) → List (List ℕ)
overlay None x y zs = zs
overlay (Some t) x y zs = over_second t.second y (slice_set zs t.first x)

-- what shows while p is pending: a target shows its spare, and the others show themselves
abbrev pub shown_under : Option Targets → List (List ℕ) → List (List ℕ)
shown_under p xs = overlay p (first_spare xs) (second_spare xs) (places xs)

unfoldable pub shown : List (List ℕ) → List (List ℕ)
shown xs = shown_under (pending_of xs) xs

-- the meaning of a journal over a card with meaning m
abbrev pub journal_of : Meaning → Meaning
journal_of m = record { sectors = shown m.sectors; power = m.power }

-- the meaning of a journal, by that of the card below
abbrev pub meaning_of : {C : Type 0} → (C → Meaning) → Journal C → Meaning
meaning_of meaning j = journal_of (meaning j.card)

-- what a done put, write or power-up leaves besides: the flag is lowered
abbrev pub Idle : Meaning → Result (Unit {0}) Refusal → Type 0
Idle n (Ok _) = 5 ≤ count n → raised n.sectors ≡ false
Idle n (Err e) = Unit {0}
