-- The law that every run keeps.
use Rattle.std.specs.Prelude.{◌≡◌, ℕ, ◌<◌, ◌≤◌, true, ◌↔◌, List, [], ◌∷◌, Ok, Err, Result}
use Rattle.refusal.specs.declared.Refusal.{Refusal}
use Rattle.card.specs.Meaning.{at}
use Rattle.trailer.specs.declared.stage.Stage.TheVariants.{Resting, Changing}
use Rattle.trailer.specs.Trailers.{Fields, named}
use Rattle.law.specs.Suites.{Suite, Proper, check, opened}
use Rattle.law.specs.States.{State, Among, trailer, place, valid, fit}
use Rattle.law.specs.Calls.{Reply}
use Rattle.law.specs.Runs.{Event, History, end_of, Run, Starts, read, wrote, stepped, formatted, ever, reach_of, Change, rests, runs, change, key_under, done_steps, may_show}

-- the trailer says what the history says of the change
abbrev pub Agrees : Suite → Change → Fields → Type 0
Agrees c (rests k) t = (t.stage ≡ Resting) × (t.first ≡ check c k)
Agrees c (runs old new w) t =
    (t.stage ≡ Changing) × (t.first ≡ check c old) × (t.second ≡ check c new) × (t.watermark ≡ w)

-- e is a write to sector i whose put took effect
abbrev pub Writes : Event → ℕ → Type 0
Writes e i = (b : List ℕ) × (r : Reply) × (e.entry ≡ wrote i b r) × (e.took ≡ true)

-- e is a format whose put took effect
abbrev pub Formats : Event → Type 0
Formats e = (n : ℕ) × (label : List ℕ) × (r : Reply) × (e.entry ≡ formatted n label r) × (e.took ≡ true)

module _ (c : Suite) (reach : ℕ) (v : State) where
  -- sector i shows p: its decipherment under a key ever loaded that has the check that the trailer names for i, whether
  -- that key is loaded now or not
  pub record Shows (es : History) (i : ℕ) (p : List ℕ) : Type 0 where
    pub key : List ℕ
    pub known : Among key (ever v es)
    pub lies : check c key ≡ named (trailer (end_of v es)) i
    pub plain : p ≡ opened c key i (at (end_of v es).store (place (end_of v es) (reach_of reach es) i))

  -- of each run
  pub record Holds (es : History) : Type 0 where
    -- (a) every data sector shows one thing, and one of those that it may show
    pub shows : (i : ℕ) → i < reach_of reach es → (p : List ℕ) × Shows es i p × Among p (may_show c reach v i es)
    pub only : (i : ℕ) → i < reach_of reach es → (p q : List ℕ) → Shows es i p → Shows es i q → p ≡ q
    -- (b) the trailer is valid and agrees with the history, and each data sector lies under a key ever loaded: while a change runs
    -- the new one below the watermark and the old one else, at rest the volume's
    pub valid : valid c (end_of v es) ≡ true
    pub reaches : (trailer (end_of v es)).reach ≡ reach_of reach es
    pub agrees : Agrees c (change c v es) (trailer (end_of v es))
    pub lies : (i : ℕ) → i < reach_of reach es → named (trailer (end_of v es)) i ≡ check c (key_under (change c v es) i)
    pub known : (i : ℕ) → i < reach_of reach es → Among (key_under (change c v es) i) (ever v es)
    -- (c) one change has no more done steps than there are data sectors
    pub steps : done_steps es ≤ reach_of reach es

  -- of each event after a run
  pub record Keeps (e : Event) (es : History) : Type 0 where
    -- (a) a done read returns what its sector shows
    pub reads : (i size : ℕ) (b : List ℕ) → e.entry ≡ read i size (Ok b) → (i < reach_of reach es) × Shows (e ∷ es) i b
    -- (b) what is no write to sector i, and no format, whose put took effect leaves what i shows
    pub leaves :
        (i : ℕ) → i < reach_of reach es → (Writes e i → ⊥) → (Formats e → ⊥)
        → (p : List ℕ) → Shows es i p → Shows (e ∷ es) i p
    -- (c) while a change runs, a step with lasting power, fitting keys and a work buffer of 520 bytes is refused exactly
    -- when no sector is left
    pub refuses :
        (old new : List ℕ) (w : ℕ) (r : Result ℕ Refusal)
        → change c v es ≡ runs old new w → e.entry ≡ stepped 520 r
        → (end_of v es).store.power ≡ true → e.after.store.power ≡ true → fit c (end_of v es) ≡ true
        → ((f : Refusal) × (r ≡ Err f)) ↔ (w ≡ reach_of reach es)

  abbrev pub Lawful : History → Type 0
  Lawful [] = Holds []
  Lawful (e ∷ es) = Holds (e ∷ es) × Keeps e es

-- no two different keys share a check
abbrev pub Distinct : Suite → List (List ℕ) → Type 0
Distinct c ks = (j k : List ℕ) → Among j ks → Among k ks → check c j ≡ check c k → j ≡ k

-- for every cipher that keeps its law, and every run after a format, on every store
abbrev pub Law : Type 0
Law =
    (c : Suite) (reach : ℕ) (v : State) (es : History)
    → Proper c → Starts c reach v → Run c v es → Distinct c (ever v es) → Lawful c reach v es
