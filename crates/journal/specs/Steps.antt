-- What the journal's private calls do, between the meaning of the card below before (m) and after (n).
use Rattle.std.specs.Prelude.{◌≡◌, ℕ, ◌-◌, ◌<◌, ◌≤◌, true, false, cond, ◌≢◌, ◌⊎◌, List, replicate, Some, None, Ok, Err, Option, Result, option_map, ◌==◌, slice_set}
use Rattle.refusal.specs.declared.Refusal.{Refusal}
use Rattle.card.specs.Meaning.{Meaning, count, put, off}
use Rattle.card.specs.Calls.{Refused}
use Rattle.journal.specs.declared.layout.Layout.{Layout}
use Rattle.journal.specs.declared.slip.Targets.{Targets}
use Rattle.journal.specs.declared.put.Write.{Write}
use Rattle.journal.specs.declared.put.Put.{Put}
use Rattle.journal.specs.Journals.{shown, shown_under, raised, slip, journal_of}

-- the sector of t below that shows at n, which is k but for the second target
abbrev pub past_second : Option ℕ → ℕ → ℕ → ℕ → ℕ
past_second None t n k = k
past_second (Some b) t n k = cond (n == b) (t - 3) k

-- the sector of t below that shows at n
abbrev pub place_of : Option Targets → ℕ → ℕ → ℕ
place_of None t n = n
place_of (Some p) t n = past_second p.second t n (cond (n == p.first) (t - 4) n)

-- the second target is below limit, and is not a
abbrev pub second_fits : ℕ → ℕ → Option ℕ → Type 0
second_fits limit a None = Unit {0}
second_fits limit a (Some b) = (b < limit) × (a ≢ b)

-- targets are below limit, and differ
abbrev pub Fit : ℕ → Option Targets → Type 0
Fit limit None = Unit {0}
Fit limit (Some p) = (p.first < limit) × second_fits limit p.first p.second

-- the targets of a put
abbrev pub targets_of : Put → Targets
targets_of p = record { first = p.first.n; second = option_map (λ w. w.n) p.second }

-- the same bytes, for the spares
abbrev pub spared : ℕ → Put → Put
spared t p = record { first = record { n = t - 4; bytes = p.first.bytes }; second = option_map (λ w. record { n = t - 3; bytes = w.bytes }) p.second }

-- the second sector of a put replaced
abbrev pub wrote_second : Meaning → Option Write → Meaning
wrote_second m None = m
wrote_second m (Some w) = put m w.n w.bytes.now

-- the sectors of a put replaced
abbrev pub wrote : Meaning → Put → Meaning
wrote m p = wrote_second (put m p.first.n p.first.bytes.now) p.second

-- the journal's meaning if p were pending
abbrev pub journal_under : Option Targets → Meaning → Meaning
journal_under p m = record { sectors = shown_under p m.sectors; power = m.power }

-- the layout is that of the card below
abbrev pub IsLayout : Layout → Meaning → Type 0
IsLayout l m = l.total ≡ count m

-- the layout of the card below; one of fewer than five sectors has none, and shows none
abbrev pub LaidOut : Meaning → Meaning → Result Layout Refusal → Type 0
LaidOut m n (Ok l) = (m.power ≡ true) × (n ≡ m) × IsLayout l m × (l.total - 4 ≡ count (journal_of m))
LaidOut m n (Err e) = Refused e ⊥ (n ≡ off m) ((m.power ≡ true) × (n ≡ m) × (count (journal_of m) ≡ 0))

-- a look at the card below, which answers x
abbrev pub Looked : {A : Type 0} → Meaning → Meaning → A → Result A Refusal → Type 0
Looked m n x (Ok y) = (m.power ≡ true) × (n ≡ m) × (y ≡ x)
Looked m n x (Err e) = Refused e ⊥ (n ≡ off m) ⊥

-- a write of sector k does not show, whatever it leaves there
pub record Unseen (m : Meaning) (k : ℕ) : Type 0 where
  pub within : k < count m
  pub still : (v : List ℕ) → shown (slice_set m.sectors k v) ≡ shown m.sectors

-- sector k is written with v, and nothing shown changes
abbrev pub WroteUnseen : Meaning → Meaning → ℕ → List ℕ → Result (Unit {0}) Refusal → Type 0
WroteUnseen m n k v (Ok _) = (m.power ≡ true) × (n ≡ put m k v) × (journal_of n ≡ journal_of m)
WroteUnseen m n k v (Err e) = Refused e ⊥ (journal_of n ≡ off (journal_of m)) ⊥

-- the second write of a put does not show
abbrev pub second_unseen : Meaning → Option Write → Type 0
second_unseen m None = Unit {0}
second_unseen m (Some w) = Unseen m w.n

-- the writes of a put do not show, whatever they leave
abbrev pub AllUnseen : Meaning → Put → Type 0
AllUnseen m p = Unseen m p.first.n × second_unseen (put m p.first.n p.first.bytes.now) p.second

-- the sectors of a put are written, and nothing shown changes
abbrev pub WroteAll : Meaning → Meaning → Put → Result (Unit {0}) Refusal → Type 0
WroteAll m n p (Ok _) = (m.power ≡ true) × (n ≡ wrote m p) × (journal_of n ≡ journal_of m)
WroteAll m n p (Err e) = Refused e ⊥ (journal_of n ≡ off (journal_of m)) ⊥

-- t sectors, the flag raised, and the slip says p
pub record FlagUp (m : Meaning) (t : ℕ) (p : Option Targets) : Type 0 where
  pub total : t ≡ count m
  pub room : 5 ≤ t
  pub flag : raised m.sectors ≡ true
  pub slipped : slip m.sectors ≡ p

-- t sectors, and the flag lowered
pub record FlagDown (m : Meaning) (t : ℕ) : Type 0 where
  pub total : t ≡ count m
  pub room : 5 ≤ t
  pub flag : raised m.sectors ≡ false

-- t sectors, the flag lowered, and the slip says p
pub record Ready (m : Meaning) (t : ℕ) (p : Option Targets) : Type 0 where
  pub total : t ≡ count m
  pub room : 5 ≤ t
  pub flag : raised m.sectors ≡ false
  pub slipped : slip m.sectors ≡ p

-- t sectors, the flag raised, and the targets hold what the spares do
pub record Copied (m : Meaning) (t : ℕ) : Type 0 where
  pub total : t ≡ count m
  pub room : 5 ≤ t
  pub flag : raised m.sectors ≡ true
  pub same : shown_under (slip m.sectors) m.sectors ≡ shown_under None m.sectors

-- the spares are copied, and nothing shown changes
abbrev pub Replayed : Meaning → Meaning → ℕ → Result (Unit {0}) Refusal → Type 0
Replayed m n t (Ok _) = (m.power ≡ true) × Copied n t × (journal_of n ≡ journal_of m)
Replayed m n t (Err e) = Refused e ⊥ (journal_of n ≡ off (journal_of m)) ⊥

-- nothing shown changes; where it is done, the flag is lowered
abbrev pub Settled : Meaning → Meaning → Result (Unit {0}) Refusal → Type 0
Settled m n (Ok _) = (m.power ≡ true) × (n.power ≡ true) × (count n ≡ count m) × (raised n.sectors ≡ false) × (journal_of n ≡ journal_of m)
Settled m n (Err e) = Refused e ⊥ (journal_of n ≡ off (journal_of m)) ⊥

-- nothing shows yet, and what would show under p is the put w
abbrev pub Staged : Meaning → Meaning → ℕ → Option Targets → Meaning → Result (Unit {0}) Refusal → Type 0
Staged m n t p w (Ok _) = (m.power ≡ true) × Ready n t p × (journal_of n ≡ journal_of m) × (journal_under p n ≡ w)
Staged m n t p w (Err e) = Refused e ⊥ (journal_of n ≡ off (journal_of m)) ⊥

-- the flag is raised: what the slip says shows at once, or not at all
abbrev pub FlagRaised : Meaning → Meaning → ℕ → Option Targets → Result (Unit {0}) Refusal → Type 0
FlagRaised m n t p (Ok _) = (m.power ≡ true) × FlagUp n t p × (journal_of n ≡ journal_under p m) × (n ≡ put m (t - 1) (replicate 520 165))
FlagRaised m n t p (Err e) = Refused e ⊥ ((journal_of n ≡ off (journal_of m)) ⊎ (journal_of n ≡ off (journal_under p m))) ⊥

-- a put shows w, or nothing new shows; where it is done, the flag is lowered
abbrev pub Made : Meaning → Meaning → Meaning → Result (Unit {0}) Refusal → Type 0
Made m n w (Ok _) = (m.power ≡ true) × (journal_of n ≡ w) × (raised n.sectors ≡ false)
Made m n w (Err e) = Refused e ⊥ ((journal_of n ≡ off (journal_of m)) ⊎ (journal_of n ≡ off w)) ⊥
