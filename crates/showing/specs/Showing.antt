-- What the data sectors of a volume show after each call: v is the volume before it and w after.
use Rattle.std.specs.Prelude.{◌≡◌, ℕ, ◌<◌, Bool, true, false, ◌⊎◌, List, map, length, Ok, Err, Result, slice_set}
use Rattle.std.specs.List.{range_with_len}
use Rattle.refusal.specs.declared.Refusal.{Refusal}
use Rattle.octets.specs.Little.{Bytes}
use Rattle.card.specs.Meaning.{Sound}
use Rattle.card.specs.Calls as card
use Rattle.trailer.specs.declared.stage.Stage.{Stage}
use Rattle.law.specs.Suites.{Suite, Proper}
use Rattle.law.specs.States.{State, Steady}
use Rattle.law.specs.Shown.{shown, counted, as_card}
use Rattle.law.specs.Calls as calls
use Rattle.law.specs.Calls.{Reply, read_into, KeptIfRefused}
use Rattle.law.specs.Runs.{shown_at_first}

-- every data sector shows what it showed, and there are as many
abbrev pub Kept : Suite → State → State → Type 0
Kept c v w = shown c w ≡ shown c v

-- the call found the power on and lost it
abbrev pub LostPower : State → State → Type 0
LostPower v w = (v.store.power ≡ true) × (w.store.power ≡ false)

-- sector n shows b, and every other sector what it showed
abbrev pub ShowsNew : Suite → State → ℕ → List ℕ → State → Type 0
ShowsNew c v n b w = shown c w ≡ slice_set (shown c v) n b

-- A done write shows its bytes. One that is refused keeps all, unless it lost power and its sector is new.
abbrev pub ShowsWritten : Suite → State → ℕ → List ℕ → Reply → State → Type 0
ShowsWritten c v n b (Ok _) w = ShowsNew c v n b w
ShowsWritten c v n b (Err e) w = Kept c v w ⊎ (LostPower v w × (n < counted c v) × ShowsNew c v n b w)

-- each of the last sectors but one shows its decipherment under the first key loaded
abbrev pub ShowsFresh : Suite → State → ℕ → State → Type 0
ShowsFresh c v reach w = shown c w ≡ map (shown_at_first c reach v) (range_with_len 0 reach)

abbrev pub ShowsFormatted : Suite → State → ℕ → Reply → State → Type 0
ShowsFormatted c v reach (Ok _) w = ShowsFresh c v reach w
ShowsFormatted c v reach (Err e) w = Kept c v w ⊎ (LostPower v w × ShowsFresh c v reach w)

-- a load that is refused shows what was shown; a done one shows what the new keys decipher
abbrev pub KeptUnlessLoaded : Suite → State → Reply → State → Type 0
KeptUnlessLoaded c v (Ok _) w = Unit {0}
KeptUnlessLoaded c v (Err e) w = Kept c v w

-- what each call keeps, under a cipher that keeps its law, over a store that keeps its own
module _ (c : Suite) (v w : State) where
  pub record CallsKeepWhatIsShown : Type 0 where
    pub powers_up : (r : Reply) → calls.PowersUp c v r w → Kept c v w
    pub counts : (r : Result ℕ Refusal) → calls.Counted c v r w → Kept c v w
    pub loads : (ks : List (List ℕ)) (r : Reply) → calls.Loaded c v ks r w → KeptUnlessLoaded c v r w
    pub reads : (n size : ℕ) (r : Result (List ℕ) Refusal) → calls.Read c v n size r w → Kept c v w
    pub claims : (r : Result Stage Refusal) → calls.Claimed c v r w → Kept c v w
    pub begins : (took : Bool) (r : Reply) → calls.Begun c v took r w → Kept c v w
    pub steps : (size : ℕ) (took : Bool) (r : Result ℕ Refusal) → calls.Stepped c v size took r w → Kept c v w
    pub finishes : (took : Bool) (r : Reply) → calls.Finished c v took r w → Kept c v w
    pub hands_in : calls.HandedIn c v w → Kept c v w

  pub record CallsShowWhatIsPut : Type 0 where
    pub writes :
        (n : ℕ) (b : List ℕ) (took : Bool) (r : Reply)
        → Bytes (length b) b → calls.Wrote c v n b took r w → ShowsWritten c v n b r w
    pub formats :
        (reach : ℕ) (label : List ℕ) (took : Bool) (r : Reply)
        → Bytes (length label) label → calls.Formatted c v reach label took r w → ShowsFormatted c v reach r w

  -- the volume is a card of what it shows, and its calls are the calls of that card
  pub record IsACard : Type 0 where
    pub sound : Sound (as_card c v)
    pub powers_up : (r : Reply) → calls.PowersUp c v r w → card.PoweredUp (as_card c v) (as_card c w) r
    pub counts : (r : Result ℕ Refusal) → calls.Counted c v r w → card.Counted (as_card c v) (as_card c w) r
    pub reads :
        (n : ℕ) (before after : List ℕ) (r : Reply)
        → calls.Read c v n (length before) (read_into r after) w → KeptIfRefused r before after
        → card.ReadAt (as_card c v) (as_card c w) n before after r
    pub writes :
        (n : ℕ) (b : List ℕ) (took : Bool) (r : Reply)
        → Bytes (length b) b → calls.Wrote c v n b took r w → card.WroteAt (as_card c v) (as_card c w) n b r

-- of every volume, whatever the cipher and the store
abbrev pub OfEveryVolume : (Suite → State → State → Type 0) → Type 0
OfEveryVolume P = (c : Suite) (v w : State) → Proper c → Steady v → P c v w
