-- What each call of a volume does: a relation between the state before (v) and after (w), the arguments and the reply.
-- Only whether the power fails, and whether a put that lost power took effect, is free.
use Rattle.std.specs.Prelude.{◌≡◌, ℕ, ◌+◌, ◌<◌, ◌≤◌, Bool, true, false, ◌≢◌, ◌⊎◌, List, [], ◌∷◌, length, take, drop, is_some, Ok, Err, Option, Result, slice_index_or}
use Rattle.std.specs.Option.{unwrap_or}
use Rattle.std.specs.List.{AllByRecursion}
use Rattle.refusal.specs.declared.Refusal.{Refusal}
use Rattle.refusal.specs.Numbers.{numbered}
use Rattle.refusal.specs.Demands.{Demand, AllMet, FirstUnmet}
use Rattle.card.specs.Meaning.{Meaning, at, put, off, on}
use Rattle.trailer.specs.declared.stage.Stage.{Stage}
use Rattle.trailer.specs.declared.stage.Stage.TheVariants.{Resting, Changing}
use Rattle.trailer.specs.Trailers.{Fields, encode, fresh, begun, moved, finished}
use Rattle.law.specs.Suites.{Suite, check, sealed, opened}
use Rattle.law.specs.States.{State, storing, keyed, lent, last, trailer, place, other, valid, fit, key_of, key_at}
use Rattle.law.specs.Shown.{counted, shown_at}

-- a call with these demands, before and after that of power
module _ (early late : List Demand) (v : State) where
  abbrev pub Met : Type 0
  Met = AllMet early × (v.store.power ≡ true) × AllMet late

  -- refused with number n: nothing is changed, but that the power may be off
  abbrev pub TurnedDown : ℕ → State → Type 0
  TurnedDown n w =
      (FirstUnmet early n × (w ≡ v))
      ⊎ ((AllMet early × (n ≡ 2) × (w ≡ storing v (off v.store)))
      ⊎ (AllMet early × (v.store.power ≡ true) × FirstUnmet late n × (w ≡ v)))

  -- a call that puts nothing
  abbrev pub Asks : {A : Type 0} → (A → State → Type 0) → Result A Refusal → State → Type 0
  Asks Done (Ok a) w = Met × Done a w
  Asks Done (Err e) w = TurnedDown (numbered e) w

  -- A call whose put makes the store m. The put took effect where the call is done, or lost power and left all new.
  abbrev pub Puts : {A : Type 0} → A → Meaning → Bool → Result A Refusal → State → Type 0
  Puts answer m true (Ok a) w = Met × (a ≡ answer) × (w ≡ storing v m)
  Puts answer m false (Ok a) w = ⊥
  Puts answer m true (Err e) w = Met × (numbered e ≡ 2) × (w ≡ storing v (off m))
  Puts answer m false (Err e) w = TurnedDown (numbered e) w

abbrev pub Reply : Type 0
Reply = Result (Unit {0}) Refusal

module _ (c : Suite) (v : State) where
  -- the store m with another trailer
  abbrev pub marked : Meaning → Fields → Meaning
  marked m t = put m (last v.store) (encode c.number t)

  abbrev pub t : Fields
  t = trailer v

  abbrev pub PowersUp : Reply → State → Type 0
  PowersUp (Ok _) w = w ≡ storing v (on v.store)
  PowersUp (Err e) w = (numbered e ≡ 2) × (w ≡ storing v (off v.store))

  abbrev pub Counted : Result ℕ Refusal → State → Type 0
  Counted r w = Asks [] [] v (λ n u. (n ≡ counted c v) × (u ≡ v)) r w

  abbrev pub load_demands : List (List ℕ) → List Demand
  load_demands ks =
      (7, v.out ≡ false)
      ∷ (1, AllByRecursion (λ k. length k ≡ 64) ks)
      ∷ (5, AllByRecursion (λ k. take 32 k ≢ drop 32 k) ks) ∷ []

  -- the keys ks in place of those loaded; a load never asks for power
  abbrev pub Loaded : List (List ℕ) → Reply → State → Type 0
  Loaded ks (Ok _) w = AllMet (load_demands ks) × (w ≡ keyed v ks)
  Loaded ks (Err e) w = FirstUnmet (load_demands ks) (numbered e) × (w ≡ v)

  abbrev pub format_early : List ℕ → List Demand
  format_early label = (7, v.out ≡ false) ∷ (1, length label ≡ 16) ∷ []

  abbrev pub format_late : ℕ → List Demand
  format_late reach = (3, (1 ≤ reach) × (reach ≤ last v.store)) ∷ (5, 1 ≤ length v.keys) ∷ []

  -- a resting trailer under the first key loaded, and nothing else
  abbrev pub Formatted : ℕ → List ℕ → Bool → Reply → State → Type 0
  Formatted reach label took r w =
      Puts (format_early label) (format_late reach) v
      tt (marked v.store (fresh reach (check c (slice_index_or v.keys 0 [])) label)) took r w

  -- a sector or work buffer of this length
  abbrev pub buffer_demands : ℕ → List Demand
  buffer_demands size = (1, size ≡ 520) ∷ []

  abbrev pub number_demands : ℕ → List Demand
  number_demands n = (3, n < counted c v) ∷ []

  -- sector n into a buffer of this length
  abbrev pub Read : ℕ → ℕ → Result (List ℕ) Refusal → State → Type 0
  Read n size r w =
      Asks (buffer_demands size) (number_demands n) v (λ b u. (b ≡ shown_at c v n) × (u ≡ v)) r w

  -- the bytes b, enciphered, in place of sector n
  abbrev pub Wrote : ℕ → List ℕ → Bool → Reply → State → Type 0
  Wrote n b took r w =
      Puts (buffer_demands (length b)) (number_demands n) v
      tt (put v.store (place v t.reach n) (sealed c (key_at c v n) n b)) took r w

  -- the trailer's stage
  abbrev pub Claimed : Result Stage Refusal → State → Type 0
  Claimed r w =
      Asks ((7, v.out ≡ false) ∷ []) ((4, valid c v ≡ true) ∷ (5, fit c v ≡ true) ∷ []) v
      (λ s u. (s ≡ t.stage) × (u ≡ lent v true)) r w

  -- the loaded key that a begin changes to
  abbrev pub another : Option (List ℕ)
  another = other c t.first v.keys

  abbrev pub begin_demands : List Demand
  begin_demands =
      (4, valid c v ≡ true) ∷ (5, fit c v ≡ true) ∷ (5, t.stage ≡ Resting → is_some another ≡ true) ∷ (6, t.stage ≡ Resting) ∷ []

  abbrev pub Begun : Bool → Reply → State → Type 0
  Begun took r w =
      Puts [] begin_demands v
      tt (marked v.store (begun t (check c (unwrap_or another [])))) took r w

  -- data sector w, the one at the watermark, under the key of the second check
  abbrev pub renewed : List ℕ
  renewed =
      sealed c (key_of c v t.second) t.watermark
      (opened c (key_of c v t.first) t.watermark (at v.store (place v t.reach t.watermark)))

  abbrev pub step_demands : List Demand
  step_demands = (4, valid c v ≡ true) ∷ (5, fit c v ≡ true) ∷ (6, t.stage ≡ Changing) ∷ (9, t.watermark < t.reach) ∷ []

  -- with a work buffer of this length; the answer is the new watermark
  abbrev pub Stepped : ℕ → Bool → Result ℕ Refusal → State → Type 0
  Stepped size took r w =
      Puts (buffer_demands size) step_demands v
      (t.watermark + 1) (marked (put v.store (place v t.reach t.watermark) renewed) (moved t)) took r w

  abbrev pub finish_demands : List Demand
  finish_demands = (4, valid c v ≡ true) ∷ (5, fit c v ≡ true) ∷ (6, t.stage ≡ Changing) ∷ (8, t.reach ≤ t.watermark) ∷ []

  abbrev pub Finished : Bool → Reply → State → Type 0
  Finished took r w =
      Puts [] finish_demands v
      tt (marked v.store (finished t)) took r w

  abbrev pub HandedIn : State → Type 0
  HandedIn w = w ≡ lent v false

-- a done read answers what its buffer then holds
abbrev pub read_into : Reply → List ℕ → Result (List ℕ) Refusal
read_into (Ok _) b = Ok b
read_into (Err e) b = Err e

-- a refused read leaves its buffer alone
abbrev pub KeptIfRefused : Reply → List ℕ → List ℕ → Type 0
KeptIfRefused (Ok _) before after = Unit {0}
KeptIfRefused (Err e) before after = after ≡ before
