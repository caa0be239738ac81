-- The steps of a put, by what they show.
use Rattle.std.proofs.Common.{◌≡◌, ℕ, ◌-◌, ◌<◌, true, Ok, Err, Result, Some, None, Option, List, [], length, get_or, set, sym, refl, ap, ◌∙◌, subst, arith}
use Rattle.std.proofs.lemmas.List.{length-set}
use Rattle.card.specs.Meaning.{Meaning, count, at, put, off}
use Rattle.refusal.specs.declared.Refusal.{Refusal}
use Rattle.card.proofs.Refusals.{refused_map}
use Rattle.journal.specs.declared.slip.Targets.{Targets}
use Rattle.journal.specs.declared.put.Write.{Write}
use Rattle.journal.specs.declared.put.Put.{Put}
use Rattle.journal.specs.Slips.{one, two}
use Rattle.journal.specs.Journals.{places, first_spare, second_spare, shown, shown_under, raised, slip, journal_of}
use Rattle.journal.specs.Steps.{Unseen, second_unseen, WroteUnseen, FlagUp, Fit, Copied, Replayed, targets_of, wrote}
use Rattle.journal.proofs.Changes.{raised_other, slip_other, shown_up, lowered, over_one, over_first, over_second, done_one, done_two, second_stays, slip_fit}

pub up_as : (m : Meaning) (t : ℕ) (p q : Option Targets) → FlagUp m t p → p ≡ q → FlagUp m t q
up_as m t p q u e = record { total = u.total; room = u.room; flag = u.flag; slipped = u.slipped ∙ e }

-- the targets of the slip
pub fits : (m : Meaning) (t : ℕ) (p : Option Targets) → FlagUp m t p → Fit (count m - 4) p
fits m t p u = subst (Fit (count m - 4)) u.slipped (slip_fit (count m - 4) (get_or m.sectors (count m - 2) []))

-- a place is written, and the flag and the slip stay
pub up_after : (m n : Meaning) (t : ℕ) (p : Option Targets) (k : ℕ) (v : List ℕ) → FlagUp m t p → k < count m - 4 → n ≡ put m k v → FlagUp n t p
up_after m n t p k v u h e =
    let xs = m.sectors in
    let s : n.sectors ≡ set xs k v = ap (λ z. z.sectors) e in
    record {
      total = u.total ∙ sym (ap length s ∙ length-set xs k v);
      room = u.room;
      flag = ap raised s ∙ raised_other xs k v (omega arith) ∙ u.flag;
      slipped = ap slip s ∙ slip_other xs k v (omega arith) ∙ u.slipped;
    }

-- a place that the slip covers
covered : (m : Meaning) (t : ℕ) (p : Option Targets) (k : ℕ) → FlagUp m t p → k < count m - 4 → ((v : List ℕ) → shown_under p (set m.sectors k v) ≡ shown_under p m.sectors) → Unseen m k
covered m t p k u h f =
    let xs = m.sectors in
    record {
      within = omega arith;
      still = λ v.
          shown_up (set xs k v) (raised_other xs k v (omega arith) ∙ u.flag) ∙ ap (λ z. shown_under z (set xs k v)) (slip_other xs k v (omega arith) ∙ u.slipped)
          ∙ f v ∙ ap (λ z. shown_under z xs) (sym u.slipped) ∙ sym (shown_up xs u.flag);
    }

pub unseen_one : (m : Meaning) (t a : ℕ) → FlagUp m t (Some (one a)) → Unseen m a
unseen_one m t a u = let h = fits m t (Some (one a)) u in covered m t (Some (one a)) a u h.0 (λ v. over_one m.sectors a v h.0)

pub unseen_first : (m : Meaning) (t a b : ℕ) → FlagUp m t (Some (two a b)) → Unseen m a
unseen_first m t a b u = let h = fits m t (Some (two a b)) u in covered m t (Some (two a b)) a u h.0 (λ v. over_first m.sectors a b v h.0)

pub unseen_second : (m : Meaning) (t a b : ℕ) → FlagUp m t (Some (two a b)) → Unseen m b
unseen_second m t a b u =
    let h = fits m t (Some (two a b)) u in covered m t (Some (two a b)) b u h.1.0 (λ v. over_second m.sectors a b v h.1.0 h.1.1)

-- the targets of the slip hold what the spares do
pub copied : (m : Meaning) (t : ℕ) (p : Option Targets) → FlagUp m t p → shown_under p m.sectors ≡ shown_under None m.sectors → Copied m t
copied m t p u e = record { total = u.total; room = u.room; flag = u.flag; same = ap (λ z. shown_under z m.sectors) u.slipped ∙ e }

-- the flag goes down then, and nothing shows
pub unseen_flag : (m : Meaning) (t : ℕ) → Copied m t → Unseen m (t - 1)
unseen_flag m t c =
    let xs = m.sectors in
    let r = c.room in
    let w = c.total in
    record { within = omega arith; still = λ v. subst (λ (z : ℕ). shown (set xs (z - 1) v) ≡ shown xs) (sym w) (lowered xs v (omega arith) c.flag c.same) }

-- the target of the slip is written with what its spare holds
pub placed_one : (m n : Meaning) (t a : ℕ) (x : List ℕ) → FlagUp m t (Some (one a)) → shown_under (Some (one a)) m.sectors ≡ set (places m.sectors) a x → n ≡ put m a x → shown_under (Some (one a)) n.sectors ≡ shown_under None n.sectors
placed_one m n t a x u e w =
    subst (λ (z : List (List ℕ)). shown_under (Some (one a)) z ≡ shown_under None z) (sym (ap (λ z. z.sectors) w)) (done_one m.sectors a x (fits m t (Some (one a)) u).0 e)

pub placed_two : (m o n : Meaning) (t a b : ℕ) (x y : List ℕ) → FlagUp m t (Some (two a b)) → shown_under (Some (two a b)) m.sectors ≡ set (set (places m.sectors) a x) b y → o ≡ put m a x → n ≡ put o b y → shown_under (Some (two a b)) n.sectors ≡ shown_under None n.sectors
placed_two m o n t a b x y u e v w =
    let h = fits m t (Some (two a b)) u in
    subst (λ (z : List (List ℕ)). shown_under (Some (two a b)) z ≡ shown_under None z) (sym (ap (λ z. z.sectors) w))
    (done_two m.sectors o.sectors a b x y h.0 h.1.0 h.1.1 (ap (λ z. z.sectors) v) e)

-- the same where the spares are copied
pub copied_one : (m n : Meaning) (t a : ℕ) → FlagUp m t (Some (one a)) → n ≡ put m a (at m (t - 4)) → shown_under (Some (one a)) n.sectors ≡ shown_under None n.sectors
copied_one m n t a u w = placed_one m n t a (first_spare m.sectors) u refl (w ∙ ap (λ z. put m a (at m (z - 4))) u.total)

pub copied_two : (m o n : Meaning) (t a b : ℕ) → FlagUp m t (Some (two a b)) → FlagUp o t (Some (two a b)) → o ≡ put m a (at m (t - 4)) → n ≡ put o b (at o (t - 3)) → shown_under (Some (two a b)) n.sectors ≡ shown_under None n.sectors
copied_two m o n t a b u v e f =
    let xs = m.sectors in
    let h = fits m t (Some (two a b)) u in
    let e' : o ≡ put m a (first_spare xs) = e ∙ ap (λ z. put m a (at m (z - 4))) u.total in
    let second : at o (t - 3) ≡ second_spare xs = ap (λ z. at o (z - 3)) v.total ∙ ap (λ z. second_spare z.sectors) e' ∙ second_stays xs a (first_spare xs) h.0 in
    placed_two m o n t a b (first_spare xs) (second_spare xs) u refl e' (f ∙ ap (put o b) second)

-- the targets of the slip, where there is one and where there are two
as_one : (m : Meaning) (t : ℕ) (p : Targets) → FlagUp m t (Some p) → p.second ≡ None → FlagUp m t (Some (one p.first))
as_one m t p u e = up_as m t (Some p) (Some (one p.first)) u (ap (λ (s : Option ℕ). Some (record { first = p.first; second = s })) e)

pub as_two : (m : Meaning) (t : ℕ) (p : Targets) (b : ℕ) → FlagUp m t (Some p) → p.second ≡ Some b → FlagUp m t (Some (two p.first b))
as_two m t p b u e = up_as m t (Some p) (Some (two p.first b)) u (ap (λ (s : Option ℕ). Some (record { first = p.first; second = s })) e)

first_unseen : (m : Meaning) (t a : ℕ) (s : Option ℕ) → FlagUp m t (Some (record { first = a; second = s })) → Unseen m a
first_unseen m t a None u = unseen_one m t a u
first_unseen m t a (Some b) u = unseen_first m t a b u

pub unseen_target : (m : Meaning) (t : ℕ) (p : Targets) → FlagUp m t (Some p) → Unseen m p.first
unseen_target m t p u = first_unseen m t p.first p.second u

-- the first spare was copied
pub first_copied : (m n : Meaning) (t k : ℕ) (p : Targets) → FlagUp m t (Some p) → k ≡ t - 4 → n ≡ put m p.first (at m k) → FlagUp n t (Some p)
first_copied m n t k p u e w = up_after m n t (Some p) p.first (at m k) u (fits m t (Some p) u).0 w

pub replayed_one : (m n : Meaning) (t k : ℕ) (p : Targets) → FlagUp m t (Some p) → p.second ≡ None → k ≡ t - 4 → n ≡ put m p.first (at m k) → Copied n t
replayed_one m n t k p u e f w =
    let u₁ = as_one m t p u e in
    copied n t (Some (one p.first)) (first_copied m n t k (one p.first) u₁ f w) (copied_one m n t p.first u₁ (w ∙ ap (λ z. put m p.first (at m z)) f))

pub replayed_two : (m o n : Meaning) (t k l b : ℕ) (p : Targets) (r : Result (Unit {0}) Refusal) → FlagUp m t (Some p) → p.second ≡ Some b → k ≡ t - 4 → l ≡ t - 3 → m.power ≡ true → o ≡ put m p.first (at m k) → journal_of o ≡ journal_of m → WroteUnseen o n b (at o l) r → Replayed m n t r
replayed_two m o n t k l b p (Ok _) u e f f₂ q w j v =
    let u₂ = as_two m t p b u e in
    let up = as_two o t p b (first_copied m o t k p u f w) e in (
      q,
      copied n t (Some (two p.first b)) (up_after o n t (Some (two p.first b)) b (at o l) up (fits o t (Some (two p.first b)) up).1.0 v.1)
          (copied_two m o n t p.first b u₂ up (w ∙ ap (λ z. put m p.first (at m z)) f) (v.1 ∙ ap (λ z. put o b (at o z)) f₂)),
      v.2 ∙ j,
    )
replayed_two m o n t k l b p (Err x) u e f f₂ q w j v = refused_map x (λ z. z) (λ z. z ∙ ap off j) (λ z. z) v

-- the writes of a put do not show while its targets are covered, whatever the first one writes
covered_second : (m : Meaning) (t : ℕ) (f : Write) (s : Option Write) (v : List ℕ) → FlagUp m t (Some (targets_of (record { first = f; second = s }))) → second_unseen (put m f.n v) s
covered_second m t f None v u = tt
covered_second m t f (Some w) v u = unseen_second (put m f.n v) t f.n w.n (up_after m (put m f.n v) t _ f.n v u (fits m t _ u).0 refl)

pub second_covered : (m : Meaning) (t : ℕ) (p : Put) (v : List ℕ) → FlagUp m t (Some (targets_of p)) → second_unseen (put m p.first.n v) p.second
second_covered m t p v u = covered_second m t p.first p.second v u

written_up : (m n : Meaning) (t : ℕ) (f : Write) (s : Option Write) → FlagUp m t (Some (targets_of (record { first = f; second = s }))) → n ≡ wrote m (record { first = f; second = s }) → FlagUp n t (Some (targets_of (record { first = f; second = s })))
written_up m n t f None u w = up_after m n t _ f.n f.bytes.now u (fits m t _ u).0 w
written_up m n t f (Some s) u w =
    let o = put m f.n f.bytes.now in
    let v = up_after m o t (Some (two f.n s.n)) f.n f.bytes.now u (fits m t _ u).0 refl in
    up_after o n t (Some (two f.n s.n)) s.n s.bytes.now v (fits o t _ v).1.0 w

pub put_up : (m n : Meaning) (t : ℕ) (p : Put) → FlagUp m t (Some (targets_of p)) → n ≡ wrote m p → FlagUp n t (Some (targets_of p))
put_up m n t p u w = written_up m n t p.first p.second u w

written_as : (m n : Meaning) (t : ℕ) (f : Write) (s : Option Write) → FlagUp m t (Some (targets_of (record { first = f; second = s }))) → shown_under (Some (targets_of (record { first = f; second = s }))) m.sectors ≡ (wrote (record { sectors = places m.sectors; power = m.power }) (record { first = f; second = s })).sectors → n ≡ wrote m (record { first = f; second = s }) → shown_under (Some (targets_of (record { first = f; second = s }))) n.sectors ≡ shown_under None n.sectors
written_as m n t f None u e w = placed_one m n t f.n f.bytes.now u e w
written_as m n t f (Some s) u e w = placed_two m (put m f.n f.bytes.now) n t f.n s.n f.bytes.now s.bytes.now u e refl w

pub put_as : (m n : Meaning) (t : ℕ) (p : Put) → FlagUp m t (Some (targets_of p)) → shown_under (Some (targets_of p)) m.sectors ≡ (wrote (record { sectors = places m.sectors; power = m.power }) p).sectors → n ≡ wrote m p → shown_under (Some (targets_of p)) n.sectors ≡ shown_under None n.sectors
put_as m n t p u e w = written_as m n t p.first p.second u e w
