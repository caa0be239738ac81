-- The cut layer: what it means, and how its script goes on.
use Rattle.std.specs.Prelude.{◌≡◌, ℕ, ◌-◌, ◌<◌, ◌≤◌, Bool, true, false, cond, ◌&&◌, ◌≢◌, ◌⊎◌, List, length, replicate, Some, None, Ok, Err, Option, Result, ◌==◌}
use Rattle.refusal.specs.declared.Refusal.{Refusal}
use Rattle.card.specs.Meaning.{Meaning, count, off}
use Rattle.card.specs.Calls.{Refused, Counted, PoweredUp, ReadAt, WroteAt}
use Rattle.cut.specs.declared.Script.{Script}
use Rattle.cut.specs.declared.Loss.{Loss}
use Rattle.cut.specs.declared.Loss.TheVariants.{Old, New, Junk}
use Rattle.cut.specs.Losses.{loss_of}
use Rattle.cut.specs.declared.Cut.{Cut}

-- the sectors of the card below; the power is on where it is on below and the layer has not cut it
abbrev pub cut_of : Bool → Meaning → Meaning
cut_of powered m = record { sectors = m.sectors; power = powered && m.power }

-- the meaning of a cut layer, by that of the card below
abbrev pub meaning_of : {C : Type 0} → (C → Meaning) → Cut C → Meaning
meaning_of meaning c = cut_of c.powered (meaning c.card)

-- an access is served: the script has one less to serve
abbrev pub ticked : Option Script → Option Script
ticked None = None
ticked (Some s) = cond (s.left == 0) None (Some record { left = s.left - 1; kind = s.kind })

-- whether the next access loses power
abbrev pub firing : Option Script → Bool
firing None = false
firing (Some s) = s.left == 0

-- the script counts an access, and says what its loss leaves where it fires
abbrev pub Stepped : Option Script → Bool → Option Script → Bool → Option Loss → Type 0
Stepped None p s p' (Some loss) = ⊥
Stepped None p s p' None = (s ≡ None) × (p' ≡ p)
Stepped (Some o) p s p' (Some loss) = (o.left ≡ 0) × (loss ≡ loss_of o.kind) × (s ≡ None) × (p' ≡ false)
Stepped (Some o) p s p' None = ((o.left == 0) ≡ false) × (s ≡ ticked (Some o)) × (p' ≡ p)

-- a cut layer: whether it leaves the power on, its script, and what the card below means
pub record State : Type 0 where
  pub powered : Bool
  pub script : Option Script
  pub below : Meaning

abbrev pub state : Bool → Option Script → Meaning → State
state p s m = record { powered = p; script = s; below = m }

-- the state of a cut layer over a card of this meaning
abbrev pub state_of : {C : Type 0} → (C → Meaning) → Cut C → State
state_of meaning c = state c.powered c.script (meaning c.card)

-- an access: a read or a write with the power on that passes the tests of length and number
abbrev pub Access : State → ℕ → List ℕ → Type 0
Access s k b = (length b ≡ 520) × (s.powered ≡ true) × (s.below.power ≡ true) × (k < count s.below)

-- the card below has no power, or loses it before the access: nothing of the layer changes
abbrev pub Dark : State → State → Type 0
Dark s t = (s.powered ≡ true) × (t.powered ≡ s.powered) × (t.script ≡ s.script) × (t.below ≡ off s.below)

-- the script fires: the layer cuts the power, and the script is done with
abbrev pub Fired : State → State → Type 0
Fired s t = (firing s.script ≡ true) × (t.powered ≡ false) × (t.script ≡ None)

-- the access is served by the card below, and the script counts it
abbrev pub Served : State → State → Type 0
Served s t = (firing s.script ≡ false) × (t.powered ≡ true) × (t.script ≡ ticked s.script)

-- a read: what is no access changes nothing; a read that the script cuts changes no sector
abbrev pub CutRead : State → State → ℕ → List ℕ → List ℕ → Result (Unit {0}) Refusal → Type 0
CutRead s t k b c r =
    ((Access s k b → ⊥) × (t ≡ s))
    ⊎ (Dark s t
    ⊎ ((Access s k b × (Fired s t × (t.below ≡ s.below)))
    ⊎ (Access s k b × (Served s t × ReadAt s.below t.below k b c r))))

-- the bytes of a lost write that leaves neither the old bytes nor the new
unfoldable pub junk : List ℕ
junk = replicate 520 90

-- what a write that the script cuts leaves below: the old bytes, the new, or 90 in every byte
abbrev pub Left : Loss → Meaning → Meaning → ℕ → List ℕ → Type 0
Left Old m n k b = n ≡ m
Left New m n k b = (r : Result (Unit {0}) Refusal) × WroteAt m n k b r
Left Junk m n k b = (r : Result (Unit {0}) Refusal) × WroteAt m n k junk r

abbrev pub Lost : Option Script → Meaning → Meaning → ℕ → List ℕ → Type 0
Lost None m n k b = ⊥
Lost (Some s) m n k b = Left (loss_of s.kind) m n k b

abbrev pub CutWrote : State → State → ℕ → List ℕ → Result (Unit {0}) Refusal → Type 0
CutWrote s t k b r =
    ((Access s k b → ⊥) × (t ≡ s))
    ⊎ (Dark s t
    ⊎ ((Access s k b × (Fired s t × Lost s.script s.below t.below k b))
    ⊎ (Access s k b × (Served s t × WroteAt s.below t.below k b r))))

-- the count is no access: without power nothing changes, and with it the card below is asked
abbrev pub CutCounted : State → State → Result ℕ Refusal → Type 0
CutCounted s t r =
    ((s.powered ≡ false) × (t ≡ s))
    ⊎ ((s.powered ≡ true) × (t.powered ≡ true) × (t.script ≡ s.script) × Counted s.below t.below r)

-- a power-up ends the script, and turns the power on where the card below does
abbrev pub CutPoweredUp : State → State → Result (Unit {0}) Refusal → Type 0
CutPoweredUp s t (Ok a) = (t.script ≡ None) × (t.powered ≡ true) × PoweredUp s.below t.below (Ok a)
CutPoweredUp s t (Err e) = (t.script ≡ None) × (t.powered ≡ s.powered) × PoweredUp s.below t.below (Err e)

-- the tests of an access, in order
abbrev pub Tested : State → State → ℕ → List ℕ → Result (Unit {0}) Refusal → Type 0
Tested s t k b (Ok _) = Access s k b × (t ≡ s)
Tested s t k b (Err e) =
    Refused e
    ((length b ≢ 520) × (t ≡ s))
    ((length b ≡ 520) × (((s.powered ≡ false) × (t ≡ s)) ⊎ Dark s t))
    ((length b ≡ 520) × (s.powered ≡ true) × (s.below.power ≡ true) × (count s.below ≤ k) × (t ≡ s))
