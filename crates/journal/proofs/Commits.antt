-- The rest of a put, by what it shows.
use Rattle.std.proofs.Common.{◌≡◌, ℕ, ◌-◌, ◌^◌, ◌<◌, ◌≤◌, Bool, true, false, ◌≢◌, Some, None, Option, List, [], length, set, replicate, Ok, Err, Result, sym, refl, ap, ◌∙◌, subst, inl, inr, arith}
use Rattle.std.proofs.lemmas.List.{length-set}
use Rattle.refusal.specs.declared.Refusal.{Refusal}
use Rattle.card.specs.Meaning.{Meaning, count, put, off}
use Rattle.card.proofs.Refusals.{refused_map}
use Rattle.card.specs.Calls.{WroteAt}
use Rattle.journal.specs.declared.slip.Targets.{Targets}
use Rattle.journal.specs.declared.put.Write.{Write}
use Rattle.journal.specs.declared.put.Put.{Put}
use Rattle.journal.proofs.Settles.{up_as, put_up, put_as, copied}
use Rattle.journal.specs.Slips.{one, two, slip_of, slip_bytes, slip_over}
use Rattle.journal.specs.Journals.{places, overlay, shown, shown_under, raised, slip, journal_of}
use Rattle.journal.specs.Steps.{journal_under, Unseen, AllUnseen, FlagUp, FlagDown, Ready, WroteUnseen, FlagRaised, Staged, Copied, Fit, targets_of, spared, wrote}
use Rattle.journal.proofs.Changes.{raised_other, raised_same, slip_other, slip_same, shown_down, hidden, flagged, under_past, staged_one, staged_two, lifted_any}
use Rattle.journal.proofs.SlipBytes.{slip_one, slip_two}

-- the sectors of m, with x at the first target and y at the second
abbrev pub journal_over : Option Targets → List ℕ → List ℕ → Meaning → Meaning
journal_over p x y m = record { sectors = overlay p x y m.sectors; power = m.power }

abbrev with : Bool → List (List ℕ) → Meaning
with b s = record { sectors = s; power = b }

pub lifted : (m n : Meaning) (t : ℕ) (p : Option Targets) (r : Result (Unit {0}) Refusal) → Ready m t p → WroteAt m n (t - 1) (replicate 520 165) r → FlagRaised m n t p r
lifted m n t p (Ok _) u w =
    let xs = m.sectors in
    let e : n ≡ put m (count m - 1) (replicate 520 165) = w.3 ∙ ap (λ z. put m (z - 1) (replicate 520 165)) u.total in
    let s : n.sectors ≡ set xs (length xs - 1) (replicate 520 165) = ap (λ z. z.sectors) e in
    let h = u.room in
    let i = u.total in (
      w.1,
      record {
        total = i ∙ sym (ap length s ∙ length-set xs (length xs - 1) (replicate 520 165));
        room = h;
        flag = ap raised s ∙ raised_same xs (replicate 520 165) (omega arith);
        slipped = ap slip s ∙ slip_other xs (length xs - 1) (replicate 520 165) (omega arith) ∙ u.slipped;
      },
      ap journal_of e ∙ ap (with m.power) (flagged xs (replicate 520 165) (omega arith) ∙ ap (λ z. shown_under z xs) u.slipped),
      w.3,
    )
lifted m n t p (Err x) u w =
    let xs = m.sectors in
    let h = u.room in
    let i = u.total in
    refused_map x (λ w. absurd (w.0 refl))
    (λ w.
    elim w.1 [
      | inl e ↦ inl (ap journal_of e)
      | inr k ↦
          (let e : n ≡ off (put m (count m - 1) k.2.0) = k.2.1.1 ∙ ap (λ z. off (put m (z - 1) k.2.0)) i in
          elim (lifted_any xs p k.2.0 (omega arith) u.flag u.slipped) [ inl a ↦ inl (ap journal_of e ∙ ap (with false) a) | inr a ↦ inr (ap journal_of e ∙ ap (with false) a) ])
    ])
    (λ w. let j = w.2 in absurd (omega arith)) w

-- once the flag is raised, what the spares hold is still what the put is for
pub over_places : (m n : Meaning) (t : ℕ) (p : Option Targets) (x y : List ℕ) → Ready m t p → journal_under p m ≡ journal_over p x y (journal_of m) → n ≡ put m (t - 1) (replicate 520 165) → shown_under p n.sectors ≡ overlay p x y (places n.sectors)
over_places m n t p x y u e w =
    let xs = m.sectors in
    let h = u.room in
    let i = u.total in
    let s : n.sectors ≡ set xs (length xs - 1) (replicate 520 165) = ap (λ z. z.sectors) w ∙ ap (λ z. set xs (z - 1) (replicate 520 165)) i in
    let under : (q : Option Targets) → shown_under q n.sectors ≡ shown_under q xs =
    λ q. ap (shown_under q) s ∙ under_past q xs (length xs - 1) (replicate 520 165) (omega arith) (omega arith) in
    under p ∙ ap (λ z. z.sectors) e ∙ ap (overlay p x y) (shown_down xs u.flag ∙ sym (under None))

pub unseen_down : (m : Meaning) (t k : ℕ) → FlagDown m t → t - 4 ≤ k → k < t - 1 → Unseen m k
unseen_down m t k d h l = let i = d.total in record { within = omega arith; still = λ v. hidden m.sectors k v d.flag (omega arith) (omega arith) }

pub down_after : (m n : Meaning) (t k : ℕ) (v : List ℕ) → FlagDown m t → k < t - 1 → n ≡ put m k v → FlagDown n t
down_after m n t k v d h e =
    let xs = m.sectors in
    let i = d.total in
    let s : n.sectors ≡ set xs k v = ap (λ z. z.sectors) e in
    record {
      total = i ∙ sym (ap length s ∙ length-set xs k v);
      room = d.room;
      flag = ap raised s ∙ raised_other xs k v (omega arith) ∙ d.flag;
    }

-- the slip is written last
ready : (o n : Meaning) (t : ℕ) (p : Option Targets) (v : List ℕ) → FlagDown o t → slip_of (count o - 4) v ≡ p → n ≡ put o (t - 2) v → Ready n t p
ready o n t p v d f e =
    let ys = o.sectors in
    let i = d.total in
    let h = d.room in
    let s : n.sectors ≡ set ys (length ys - 2) v = ap (λ z. z.sectors) e ∙ ap (λ z. set ys (z - 2) v) i in
    record {
      total = i ∙ sym (ap length s ∙ length-set ys (length ys - 2) v);
      room = h;
      flag = ap raised s ∙ raised_other ys (length ys - 2) v (omega arith) ∙ d.flag;
      slipped = ap slip s ∙ slip_same ys v (omega arith) ∙ f;
    }

laid_on : (o n : Meaning) (t : ℕ) (p : Option Targets) (v : List ℕ) → FlagDown o t → n ≡ put o (t - 2) v → journal_under p n ≡ journal_under p o
laid_on o n t p v d e =
    let ys = o.sectors in
    let i = d.total in
    let h = d.room in
    ap (journal_under p) (e ∙ ap (λ z. put o (z - 2) v) i) ∙ ap (with o.power) (under_past p ys (length ys - 2) v (omega arith) (omega arith))

staged : (m o n : Meaning) (t : ℕ) (p : Option Targets) (w : Meaning) (v : List ℕ) (r : Result (Unit {0}) Refusal) → FlagDown o t → m.power ≡ true → journal_of o ≡ journal_of m → slip_of (count o - 4) v ≡ p → journal_under p o ≡ w → WroteUnseen o n (t - 2) v r → Staged m n t p w r
staged m o n t p w v (Ok _) d q j f l h = (q, ready o n t p v d f h.1, h.2 ∙ j, laid_on o n t p v d h.1 ∙ l)
staged m o n t p w v (Err x) d q j f l h = refused_map x (λ z. z) (λ z. z ∙ ap off j) (λ z. z) h

pub stage_one : (m o n : Meaning) (t k : ℕ) (x v : List ℕ) (r : Result (Unit {0}) Refusal) → v ≡ slip_bytes 1 k 0 → FlagDown m t → k < t - 4 → k < 2 ^ 32 → m.power ≡ true → o ≡ put m (t - 4) x → journal_of o ≡ journal_of m → WroteUnseen o n (t - 2) v r → Staged m n t (Some (one k)) (put (journal_of m) k x) r
stage_one m o n t k x v r vs d h f q e j w =
    let xs = m.sectors in
    let i = d.total in
    let room = d.room in
    let o-down = down_after m o t (t - 4) x d (omega arith) e in
    let e' : o ≡ put m (count m - 4) x = e ∙ ap (λ z. put m (z - 4) x) i in
    let l : journal_under (Some (one k)) o ≡ put (journal_of m) k x =
    ap (journal_under (Some (one k))) e' ∙ ap (with m.power) (staged_one xs (set xs (length xs - 4) x) k x (omega arith) refl ∙ ap (λ z. set z k x) (sym (shown_down xs d.flag))) in
    let c = o-down.total in
    staged m o n t (Some (one k)) (put (journal_of m) k x) v r o-down q j (ap (slip_of (count o - 4)) vs ∙ slip_one (count o - 4) k f (omega arith)) l w

pub stage_two : (m o n q : Meaning) (t a b : ℕ) (x y v : List ℕ) (r : Result (Unit {0}) Refusal) → v ≡ slip_bytes 2 a b → FlagDown m t → a < t - 4 → b < t - 4 → a ≢ b → a < 2 ^ 32 → b < 2 ^ 32 → m.power ≡ true → o ≡ put m (t - 4) x → n ≡ put o (t - 3) y → journal_of n ≡ journal_of m → WroteUnseen n q (t - 2) v r → Staged m q t (Some (two a b)) (put (put (journal_of m) a x) b y) r
stage_two m o n q t a b x y v r vs d ha hb ne fa fb pw e e₂ j w =
    let xs = m.sectors in
    let i = d.total in
    let room = d.room in
    let o-down = down_after m o t (t - 4) x d (omega arith) e in
    let n-down = down_after o n t (t - 3) y o-down (omega arith) e₂ in
    let e' : o ≡ put m (count m - 4) x = e ∙ ap (λ z. put m (z - 4) x) i in
    let e₂' : n ≡ put o (count o - 3) y = e₂ ∙ ap (λ z. put o (z - 3) y) o-down.total in
    let s : n.sectors ≡ set o.sectors (length o.sectors - 3) y = ap (λ z. z.sectors) e₂' in
    let l : journal_under (Some (two a b)) n ≡ put (put (journal_of m) a x) b y =
    ap (with n.power) (staged_two xs o.sectors n.sectors a b x y (omega arith) (ap (λ z. z.sectors) e') s ∙ ap (λ z. set (set z a x) b y) (sym (shown_down xs d.flag)))
    ∙ ap (λ z. with z (set (set (shown xs) a x) b y)) (ap (λ z. z.power) e₂' ∙ ap (λ z. z.power) e') in
    let c = n-down.total in
    staged m n q t (Some (two a b)) (put (put (journal_of m) a x) b y) v r n-down pw j (ap (slip_of (count n - 4)) vs ∙ slip_two (count n - 4) a b fa fb (omega arith) (omega arith) ne) l w

-- the spares and the slip, whatever the targets
spares_unseen : (m : Meaning) (t : ℕ) (f : Write) (s : Option Write) → FlagDown m t → AllUnseen m (spared t (record { first = f; second = s }))
spares_unseen m t f None d = let r = d.room in (unseen_down m t (t - 4) d (omega arith) (omega arith), tt)
spares_unseen m t f (Some w) d =
    let r = d.room in
    let o = put m (t - 4) f.bytes.now in
    let e : FlagDown o t = down_after m o t (t - 4) f.bytes.now d (omega arith) refl in
    (unseen_down m t (t - 4) d (omega arith) (omega arith), unseen_down o t (t - 3) e (omega arith) (omega arith))

pub unseen_spares : (m : Meaning) (t : ℕ) (p q : Put) → FlagDown m t → q ≡ spared t p → AllUnseen m q
unseen_spares m t p q d e = subst (AllUnseen m) (sym e) (spares_unseen m t p.first p.second d)

spares_down : (m : Meaning) (t : ℕ) (f : Write) (s : Option Write) → FlagDown m t → FlagDown (wrote m (spared t (record { first = f; second = s }))) t
spares_down m t f None d = let r = d.room in down_after m (put m (t - 4) f.bytes.now) t (t - 4) f.bytes.now d (omega arith) refl
spares_down m t f (Some w) d =
    let r = d.room in
    let o = put m (t - 4) f.bytes.now in
    let e : FlagDown o t = down_after m o t (t - 4) f.bytes.now d (omega arith) refl in
    down_after o (put o (t - 3) w.bytes.now) t (t - 3) w.bytes.now e (omega arith) refl

pub spared_down : (m n : Meaning) (t : ℕ) (p q : Put) → FlagDown m t → q ≡ spared t p → n ≡ wrote m q → FlagDown n t
spared_down m n t p q d e w = subst (λ (z : Meaning). FlagDown z t) (sym (w ∙ ap (wrote m) e)) (spares_down m t p.first p.second d)

stages : (m n q : Meaning) (t : ℕ) (f : Write) (s : Option Write) (v : List ℕ) (r : Result (Unit {0}) Refusal) → v ≡ slip_over (targets_of (record { first = f; second = s })) → FlagDown m t → t < 2 ^ 32 → Fit (t - 4) (Some (targets_of (record { first = f; second = s }))) → m.power ≡ true → n ≡ wrote m (spared t (record { first = f; second = s })) → journal_of n ≡ journal_of m → WroteUnseen n q (t - 2) v r → Staged m q t (Some (targets_of (record { first = f; second = s }))) (wrote (journal_of m) (record { first = f; second = s })) r
stages m n q t f None v r vs d small h pw e j w = stage_one m n q t f.n f.bytes.now v r vs d h.0 (let l = h.0 in omega arith) pw e j w
stages m n q t f (Some s) v r vs d small h pw e j w =
    let l = h.0 in
    let k = h.1.0 in
    stage_two m (put m (t - 4) f.bytes.now) n q t f.n s.n f.bytes.now s.bytes.now v r vs d h.0 h.1.0 h.1.1 (omega arith) (omega arith) pw refl e j w

pub stage_put : (m n q : Meaning) (t k : ℕ) (p sp : Put) (v : List ℕ) (g : Targets) (r : Result (Unit {0}) Refusal) → v ≡ slip_over g → g ≡ targets_of p → k ≡ t - 2 → sp ≡ spared t p → FlagDown m t → t < 2 ^ 32 → Fit (t - 4) (Some (targets_of p)) → m.power ≡ true → n ≡ wrote m sp → journal_of n ≡ journal_of m → WroteUnseen n q k v r → Staged m q t (Some (targets_of p)) (wrote (journal_of m) p) r
stage_put m n q t k p sp v g r vs ge ke e d small h pw w j u =
    stages m n q t p.first p.second v r (vs ∙ ap slip_over ge) d small h pw (w ∙ ap (wrote m) e) j (subst (λ (z : ℕ). WroteUnseen n q z v r) ke u)

-- once the flag is raised, the writes of the put are covered
pub raised_up : (m n : Meaning) (t : ℕ) (p : Option Targets) → Ready m t p → FlagUp n t (slip m.sectors) → FlagUp n t p
raised_up m n t p u v = up_as n t (slip m.sectors) p v u.slipped

over_put : (m n : Meaning) (t : ℕ) (f : Write) (s : Option Write) → Ready m t (Some (targets_of (record { first = f; second = s }))) → journal_under (Some (targets_of (record { first = f; second = s }))) m ≡ wrote (journal_of m) (record { first = f; second = s }) → n ≡ put m (t - 1) (replicate 520 165) → shown_under (Some (targets_of (record { first = f; second = s }))) n.sectors ≡ (wrote (record { sectors = places n.sectors; power = n.power }) (record { first = f; second = s })).sectors
over_put m n t f None u e w = over_places m n t (Some (one f.n)) f.bytes.now [] u e w
over_put m n t f (Some s) u e w = over_places m n t (Some (two f.n s.n)) f.bytes.now s.bytes.now u e w

pub may_lower : (m n q : Meaning) (t : ℕ) (p : Put) → Ready m t (Some (targets_of p)) → journal_under (Some (targets_of p)) m ≡ wrote (journal_of m) p → FlagUp n t (slip m.sectors) → n ≡ put m (t - 1) (replicate 520 165) → q ≡ wrote n p → Copied q t
may_lower m n q t p u e v f w =
    let up = raised_up m n t (Some (targets_of p)) u v in
    copied q t (Some (targets_of p)) (put_up n q t p up w) (put_as n q t p up (over_put m n t p.first p.second u e f) w)
