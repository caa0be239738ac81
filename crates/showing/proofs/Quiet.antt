-- What is shown depends on the sectors and the keys alone: calls that put nothing keep it.
use Rattle.std.proofs.Common.{◌≡◌, ℕ, Bool, true, false, ◌⊎◌, List, Ok, Err, Result, refl, ap, ◌∙◌, inl, inr}
use Rattle.refusal.specs.declared.Refusal.{Refusal}
use Rattle.refusal.specs.Demands.{Demand}
use Rattle.card.specs.Meaning.{Meaning, off, on}
use Rattle.trailer.specs.declared.stage.Stage.{Stage}
use Rattle.law.specs.Suites.{Suite}
use Rattle.law.specs.States.{State, storing, lent}
use Rattle.law.specs.Shown.{shown}
use Rattle.law.specs.Calls.{Reply, Met, Puts, PowersUp, Counted, Loaded, Read, Claimed, HandedIn}
use Rattle.showing.specs.Showing.{Kept, KeptUnlessLoaded}

-- neither the power nor a permit is shown
pub off_kept : (c : Suite) (v : State) (m : Meaning) → shown c (storing v (off m)) ≡ shown c (storing v m)
unfolding shown
off_kept c v m = refl

pub on_kept : (c : Suite) (v : State) → shown c (storing v (on v.store)) ≡ shown c v
unfolding shown
on_kept c v = refl

lent_kept : (c : Suite) (v : State) (b : Bool) → shown c (lent v b) ≡ shown c v
unfolding shown
lent_kept c v b = refl

module _ (c : Suite) (v w : State) where
  same : w ≡ v → Kept c v w
  same e = ap (shown c) e

  -- with the power off
  dark : w ≡ storing v (off v.store) → Kept c v w
  dark e = ap (shown c) e ∙ off_kept c v v.store

  -- `TurnedDown`, whatever the demands
  turned_down_kept :
      {Unmet Met Lost On Late : Type 0}
      → (Unmet × (w ≡ v)) ⊎ ((Met × Lost × (w ≡ storing v (off v.store))) ⊎ (Met × On × Late × (w ≡ v))) → Kept c v w
  turned_down_kept (inl h) = same h.1
  turned_down_kept (inr (inl h)) = dark h.2
  turned_down_kept (inr (inr h)) = same h.3

  module _ (early late : List Demand) {A : Type 0} (answer : A) (m : Meaning) where
    -- a done put shows what its store shows
    pub put_done : (took : Bool) (a : A) → Puts early late v answer m took (Ok a) w → Met early late v × (shown c w ≡ shown c (storing v m))
    put_done true a h = (h.0, ap (shown c) h.2)
    put_done false a h = absurd h

    -- a refused one keeps all, or lost power and shows what its store shows
    pub put_refused :
        (took : Bool) (e : Refusal) → Puts early late v answer m took (Err e) w
        → Kept c v w ⊎ (Met early late v × (w.store.power ≡ false) × (shown c w ≡ shown c (storing v m)))
    put_refused true e h = inr (h.0, ap (λ (u : State). u.store.power) h.2, ap (shown c) h.2 ∙ off_kept c v m)
    put_refused false e h = inl (turned_down_kept h)

    -- a put that shows what was shown keeps all, done or not
    pub put_kept :
        (took : Bool) (r : Result A Refusal) → (Met early late v → shown c (storing v m) ≡ shown c v)
        → Puts early late v answer m took r w → Kept c v w
    put_kept true (Ok a) k h = ap (shown c) h.2 ∙ k h.0
    put_kept false (Ok a) k h = absurd h
    put_kept true (Err e) k h = ap (shown c) h.2 ∙ off_kept c v m ∙ k h.0
    put_kept false (Err e) k h = turned_down_kept h

  pub power_up_kept : (r : Reply) → PowersUp c v r w → Kept c v w
  power_up_kept (Ok a) h = ap (shown c) h ∙ on_kept c v
  power_up_kept (Err e) h = dark h.1

  pub count_kept : (r : Result ℕ Refusal) → Counted c v r w → Kept c v w
  count_kept (Ok n) h = same h.1.1
  count_kept (Err e) h = turned_down_kept h

  pub load_kept : (ks : List (List ℕ)) (r : Reply) → Loaded c v ks r w → KeptUnlessLoaded c v r w
  load_kept ks (Ok a) h = tt
  load_kept ks (Err e) h = same h.1

  pub read_kept : (n size : ℕ) (r : Result (List ℕ) Refusal) → Read c v n size r w → Kept c v w
  read_kept n size (Ok b) h = same h.1.1
  read_kept n size (Err e) h = turned_down_kept h

  pub claim_kept : (r : Result Stage Refusal) → Claimed c v r w → Kept c v w
  claim_kept (Ok s) h = ap (shown c) h.1.1 ∙ lent_kept c v true
  claim_kept (Err e) h = turned_down_kept h

  pub hand_in_kept : HandedIn c v w → Kept c v w
  hand_in_kept h = ap (shown c) h ∙ lent_kept c v false
