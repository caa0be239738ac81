-- What each call of a card or a whole store does: a relation between the meaning before (m) and after (n), the
-- arguments, the buffer before and after, and the reply. Only whether the power fails, and what a write that loses power
-- leaves in its own sector, is free.
use Rattle.std.specs.Prelude.{◌≡◌, ℕ, ◌<◌, ◌≤◌, true, ◌≢◌, ◌⊎◌, List, length, Ok, Err, Result}
use Rattle.refusal.specs.declared.Refusal.{Refusal}
use Rattle.refusal.specs.declared.Refusal.TheVariants.{WrongLength, PowerOff, OutOfRange, InvalidTrailer, UnfitKey, WrongStage, PermitOut, SectorsLeft, NothingLeft}
use Rattle.card.specs.Meaning.{Meaning, Sector, count, at, put, off, on}

-- The three refusals of a card, each with what it says; a card gives no other.
abbrev pub Refused : Refusal → Type 0 → Type 0 → Type 0 → Type 0
Refused WrongLength P Q R = P
Refused PowerOff P Q R = Q
Refused OutOfRange P Q R = R
Refused InvalidTrailer P Q R = ⊥
Refused UnfitKey P Q R = ⊥
Refused WrongStage P Q R = ⊥
Refused PermitOut P Q R = ⊥
Refused SectorsLeft P Q R = ⊥
Refused NothingLeft P Q R = ⊥

-- the number of sectors, which no call changes
abbrev pub Counted : Meaning → Meaning → Result ℕ Refusal → Type 0
Counted m n (Ok k) = (m.power ≡ true) × (n ≡ m) × (k ≡ count m)
Counted m n (Err e) = Refused e ⊥ (n ≡ off m) ⊥

abbrev pub PoweredUp : Meaning → Meaning → Result (Unit {0}) Refusal → Type 0
PoweredUp m n (Ok _) = n ≡ on m
PoweredUp m n (Err e) = Refused e ⊥ (n ≡ off m) ⊥

-- the tests of a read or a write on a card with power: the length, then the number
abbrev pub Tested : Meaning → ℕ → List ℕ → Result (Unit {0}) Refusal → Type 0
Tested m k b (Ok _) = (length b ≡ 520) × (k < count m)
Tested m k b (Err e) = Refused e (length b ≢ 520) ⊥ ((length b ≡ 520) × (count m ≤ k))

-- sector k is copied into the buffer, which holds b before and c after
abbrev pub ReadAt : Meaning → Meaning → ℕ → List ℕ → List ℕ → Result (Unit {0}) Refusal → Type 0
ReadAt m n k b c (Ok _) = (length b ≡ 520) × (m.power ≡ true) × (k < count m) × (n ≡ m) × (c ≡ at m k)
ReadAt m n k b c (Err e) =
    Refused e
    ((length b ≢ 520) × (n ≡ m) × (c ≡ b))
    ((length b ≡ 520) × (n ≡ off m) × (c ≡ b))
    ((length b ≡ 520) × (m.power ≡ true) × (count m ≤ k) × (n ≡ m) × (c ≡ b))

-- a write that answers "power": it found the power off and changed nothing, or lost it and left anything in sector k
abbrev pub Torn : Meaning → Meaning → ℕ → Type 0
Torn m n k = (n ≡ off m) ⊎ ((m.power ≡ true) × (k < count m) × ((v : List ℕ) × (Sector v × (n ≡ off (put m k v)))))

abbrev pub WroteAt : Meaning → Meaning → ℕ → List ℕ → Result (Unit {0}) Refusal → Type 0
WroteAt m n k b (Ok _) = (length b ≡ 520) × (m.power ≡ true) × (k < count m) × (n ≡ put m k b)
WroteAt m n k b (Err e) =
    Refused e
    ((length b ≢ 520) × (n ≡ m))
    ((length b ≡ 520) × Torn m n k)
    ((length b ≡ 520) × (m.power ≡ true) × (count m ≤ k) × (n ≡ m))

-- a put of one sector: where it loses power, its sector is old or new
abbrev pub PutOne : Meaning → Meaning → ℕ → List ℕ → Result (Unit {0}) Refusal → Type 0
PutOne m n k b (Ok _) = (length b ≡ 520) × (m.power ≡ true) × (k < count m) × (n ≡ put m k b)
PutOne m n k b (Err e) =
    Refused e
    ((length b ≢ 520) × (n ≡ m))
    ((length b ≡ 520) × ((n ≡ off m) ⊎ ((m.power ≡ true) × (k < count m) × (n ≡ off (put m k b)))))
    ((length b ≡ 520) × (m.power ≡ true) × (count m ≤ k) × (n ≡ m))

-- a put of two sectors: where it loses power, both are old or both are new
abbrev pub PutTwo : Meaning → Meaning → ℕ → List ℕ → ℕ → List ℕ → Result (Unit {0}) Refusal → Type 0
PutTwo m n j x k y (Ok _) =
    (length x ≡ 520) × (length y ≡ 520) × (m.power ≡ true) × (j < count m) × (k < count m) × (j ≢ k) × (n ≡ put (put m j x) k y)
PutTwo m n j x k y (Err e) =
    Refused e
    (((length x ≢ 520) ⊎ (length y ≢ 520)) × (n ≡ m))
    ((length x ≡ 520) × (length y ≡ 520)
    × ((n ≡ off m) ⊎ ((m.power ≡ true) × (j < count m) × (k < count m) × (j ≢ k) × (n ≡ off (put (put m j x) k y)))))
    ((length x ≡ 520) × (length y ≡ 520) × (m.power ≡ true) × ((count m ≤ j) ⊎ ((count m ≤ k) ⊎ (j ≡ k))) × (n ≡ m))
