-- What a write of one sector below does to what the journal shows.
use Rattle.std.proofs.Common.{◌≡◌, ℕ, ◌-◌, ◌<◌, ◌≤◌, Bool, true, false, cond, not, ◌&&◌, eqb, ltb, ◌≢◌, ◌⊎◌, Some, None, Option, List, [], length, get_or, take, set, sym, refl, ap, ◌∙◌, inl, inr, arith}
use lib.Seq.{take-set-lt}
use Rattle.std.proofs.lemmas.List.{length-set, get_or-set_same, get_or-set_other, take-set-le, set-set, set_comm}
use Rattle.std.proofs.lemmas.Bool.{cases_Bool, and_parts, ltb-true, eqb-false, not-true}
use Rattle.journal.specs.declared.slip.Targets.{Targets}
use Rattle.octets.specs.Little.{all_are}
use Rattle.journal.specs.Slips.{one, two, slip_of, said, field}
use Rattle.journal.specs.Steps.{Fit}
use Rattle.journal.specs.Journals.{places, second_spare, overlay, shown, shown_under, raised, slip}

end_other : (xs : List (List ℕ)) (k : ℕ) (v : List ℕ) (d : ℕ) → length xs - d ≢ k → get_or (set xs k v) (length (set xs k v) - d) [] ≡ get_or xs (length xs - d) []
end_other xs k v d ne = ap (λ n. get_or (set xs k v) (n - d) []) (length-set xs k v) ∙ get_or-set_other xs k (length xs - d) v [] ne

end_same : (xs : List (List ℕ)) (v : List ℕ) (d : ℕ) → length xs - d < length xs → get_or (set xs (length xs - d) v) (length (set xs (length xs - d) v) - d) [] ≡ v
end_same xs v d h = ap (λ n. get_or (set xs (length xs - d) v) (n - d) []) (length-set xs (length xs - d) v) ∙ get_or-set_same xs (length xs - d) v [] h

pub raised_other : (xs : List (List ℕ)) (k : ℕ) (v : List ℕ) → length xs - 1 ≢ k → raised (set xs k v) ≡ raised xs
raised_other xs k v ne = ap (all_are 165) (end_other xs k v 1 ne)

pub raised_same : (xs : List (List ℕ)) (v : List ℕ) → 0 < length xs → raised (set xs (length xs - 1) v) ≡ all_are 165 v
raised_same xs v h = ap (all_are 165) (end_same xs v 1 (omega arith))

pub slip_other : (xs : List (List ℕ)) (k : ℕ) (v : List ℕ) → length xs - 2 ≢ k → slip (set xs k v) ≡ slip xs
slip_other xs k v ne =
    ap (λ s. slip_of (length (set xs k v) - 4) s) (end_other xs k v 2 ne) ∙ ap (λ n. slip_of (n - 4) (get_or xs (length xs - 2) [])) (length-set xs k v)

pub slip_same : (xs : List (List ℕ)) (v : List ℕ) → 4 ≤ length xs → slip (set xs (length xs - 2) v) ≡ slip_of (length xs - 4) v
slip_same xs v h =
    ap (λ s. slip_of (length (set xs (length xs - 2) v) - 4) s) (end_same xs v 2 (omega arith)) ∙ ap (λ n. slip_of (n - 4) v) (length-set xs (length xs - 2) v)

over_cong : (p : Option Targets) (x x' y y' : List ℕ) (zs zs' : List (List ℕ)) → x ≡ x' → y ≡ y' → zs ≡ zs' → overlay p x y zs ≡ overlay p x' y' zs'
over_cong p x x' y y' zs zs' e f g = ap (λ a. overlay p a y zs) e ∙ ap (λ b. overlay p x' b zs) f ∙ ap (λ c. overlay p x' y' c) g

places_past : (xs : List (List ℕ)) (k : ℕ) (v : List ℕ) → length xs - 4 ≤ k → take (length (set xs k v) - 4) (set xs k v) ≡ take (length xs - 4) xs
places_past xs k v h = ap (λ n. take (n - 4) (set xs k v)) (length-set xs k v) ∙ take-set-le (length xs - 4) xs k v h

places_at : (xs : List (List ℕ)) (k : ℕ) (v : List ℕ) → k < length xs - 4 → take (length (set xs k v) - 4) (set xs k v) ≡ set (take (length xs - 4) xs) k v
places_at xs k v h = ap (λ n. take (n - 4) (set xs k v)) (length-set xs k v) ∙ take-set-lt (length xs - 4) xs k v h

-- the flag and the slip lie past the spares
pub under_past : (p : Option Targets) (xs : List (List ℕ)) (k : ℕ) (v : List ℕ) → 4 ≤ length xs → length xs - 2 ≤ k → shown_under p (set xs k v) ≡ shown_under p xs
under_past p xs k v l h =
    over_cong p _ _ _ _ _ _ (end_other xs k v 4 (omega arith)) (end_other xs k v 3 (omega arith)) (places_past xs k v (omega arith))

pub shown_down : (xs : List (List ℕ)) → raised xs ≡ false → shown xs ≡ shown_under None xs
unfolding shown
shown_down xs h = ap (λ b. shown_under (cond b (slip xs) None) xs) h

pub shown_up : (xs : List (List ℕ)) → raised xs ≡ true → shown xs ≡ shown_under (slip xs) xs
unfolding shown
shown_up xs h = ap (λ b. shown_under (cond b (slip xs) None) xs) h

-- while the flag is down, what is past the places does not show
pub hidden : (xs : List (List ℕ)) (k : ℕ) (v : List ℕ) → raised xs ≡ false → length xs - 4 ≤ k → k < length xs - 1 → shown (set xs k v) ≡ shown xs
hidden xs k v d h l =
    shown_down (set xs k v) (raised_other xs k v (omega arith) ∙ d) ∙ places_past xs k v h ∙ sym (shown_down xs d)

-- any write of the flag shows what the slip says, or the places
pub flagged : (xs : List (List ℕ)) (v : List ℕ) → 4 ≤ length xs → shown (set xs (length xs - 1) v) ≡ shown_under (cond (all_are 165 v) (slip xs) None) xs
unfolding shown
flagged xs v h =
    ap (λ b. shown_under (cond b (slip (set xs (length xs - 1) v)) None) (set xs (length xs - 1) v)) (raised_same xs v (omega arith))
    ∙ ap (λ p. shown_under (cond (all_are 165 v) p None) (set xs (length xs - 1) v)) (slip_other xs (length xs - 1) v (omega arith))
    ∙ under_past (cond (all_are 165 v) (slip xs) None) xs (length xs - 1) v h (omega arith)

-- the flag goes down where the targets hold what the spares do
pub lowered : (xs : List (List ℕ)) (v : List ℕ) → 4 ≤ length xs → raised xs ≡ true → shown_under (slip xs) xs ≡ shown_under None xs → shown (set xs (length xs - 1) v) ≡ shown xs
lowered xs v h u e =
    flagged xs v h
    ∙ elim (all_are 165 v) as (λ b. shown_under (cond b (slip xs) None) xs ≡ shown xs) [ true ↦ sym (shown_up xs u) | false ↦ sym e ∙ sym (shown_up xs u) ]

-- what is written to a target does not show
pub over_one : (xs : List (List ℕ)) (a : ℕ) (v : List ℕ) → a < length xs - 4 → shown_under (Some (one a)) (set xs a v) ≡ shown_under (Some (one a)) xs
over_one xs a v h =
    over_cong (Some (one a)) _ _ (get_or (set xs a v) (length (set xs a v) - 3) []) _ _ _ (end_other xs a v 4 (omega arith)) (end_other xs a v 3 (omega arith)) (places_at xs a v h)
    ∙ set-set (take (length xs - 4) xs) a v (get_or xs (length xs - 4) [])

pub over_first : (xs : List (List ℕ)) (a b : ℕ) (v : List ℕ) → a < length xs - 4 → shown_under (Some (two a b)) (set xs a v) ≡ shown_under (Some (two a b)) xs
over_first xs a b v h =
    over_cong (Some (two a b)) _ _ _ _ _ _ (end_other xs a v 4 (omega arith)) (end_other xs a v 3 (omega arith)) (places_at xs a v h)
    ∙ ap (λ z. set z b (get_or xs (length xs - 3) [])) (set-set (take (length xs - 4) xs) a v (get_or xs (length xs - 4) []))

pub over_second : (xs : List (List ℕ)) (a b : ℕ) (v : List ℕ) → b < length xs - 4 → a ≢ b → shown_under (Some (two a b)) (set xs b v) ≡ shown_under (Some (two a b)) xs
over_second xs a b v h ne =
    let zs = take (length xs - 4) xs in
    let x = get_or xs (length xs - 4) [] in
    let y = get_or xs (length xs - 3) [] in
    over_cong (Some (two a b)) _ _ _ _ _ _ (end_other xs b v 4 (omega arith)) (end_other xs b v 3 (omega arith)) (places_at xs b v h)
    ∙ ap (λ z. set z b y) (sym (set_comm zs a b x v ne))
    ∙ set-set (set zs a x) b v y

-- a target that holds what its spare does
pub done_one : (xs : List (List ℕ)) (a : ℕ) (x : List ℕ) → a < length xs - 4 → shown_under (Some (one a)) xs ≡ set (places xs) a x → shown_under (Some (one a)) (set xs a x) ≡ shown_under None (set xs a x)
done_one xs a x h e = over_one xs a x h ∙ e ∙ sym (places_at xs a x h)

pub done_two : (xs ys : List (List ℕ)) (a b : ℕ) (x y : List ℕ) → a < length xs - 4 → b < length xs - 4 → a ≢ b → ys ≡ set xs a x → shown_under (Some (two a b)) xs ≡ set (set (places xs) a x) b y → shown_under (Some (two a b)) (set ys b y) ≡ shown_under None (set ys b y)
done_two xs ys a b x y h i ne s e =
    let l : length ys ≡ length xs = ap length s ∙ length-set xs a x in
    let first : places ys ≡ set (places xs) a x = ap places s ∙ places_at xs a x h in
    over_second ys a b y (omega arith) ne
    ∙ ap (shown_under (Some (two a b))) s
    ∙ over_first xs a b x h
    ∙ e
    ∙ ap (λ z. set z b y) (sym first)
    ∙ sym (places_at ys b y (omega arith))

-- the spares stand where another sector is written
pub second_stays : (xs : List (List ℕ)) (a : ℕ) (v : List ℕ) → a < length xs - 4 → second_spare (set xs a v) ≡ second_spare xs
second_stays xs a v h = end_other xs a v 3 (omega arith)

-- the targets of a slip are places, and differ
fit_cond : (limit : ℕ) (b : Bool) (p q : Option Targets) → (b ≡ true → Fit limit p) → Fit limit q → Fit limit (cond b p q)
fit_cond limit true p q f g = f refl
fit_cond limit false p q f g = g

fit_said : (limit k a b : ℕ) → Fit limit (said limit k a b)
fit_said limit k a b =
    fit_cond limit (eqb k 1) _ _ (λ _. fit_cond limit (ltb a limit && eqb b 0) (Some (one a)) None (λ e. (ltb-true a limit (and_parts (ltb a limit) (eqb b 0) e).0, tt)) tt)
    (fit_cond limit (eqb k 2) _ _
    (λ _. fit_cond limit (ltb a limit && (ltb b limit && not (eqb a b))) (Some (two a b)) None
    (λ e.
    let p = and_parts (ltb a limit) (ltb b limit && not (eqb a b)) e in
    let q = and_parts (ltb b limit) (not (eqb a b)) p.1 in
    (ltb-true a limit p.0, (ltb-true b limit q.0, eqb-false a b (not-true (eqb a b) q.1)))) tt) tt)

pub slip_fit : (limit : ℕ) (s : List ℕ) → Fit limit (slip_of limit s)
slip_fit limit s =
    elim (all_are 0 (take 508 s) && all_are 0 (take 3 (lib.ListN.drop 509 s))) as (λ b. Fit limit (cond b (said limit (get_or s 508 0) (field s 512) (field s 516)) None)) [ true ↦ fit_said limit (get_or s 508 0) (field s 512) (field s 516) | false ↦ tt ]

-- what a slip would show once the spares are written
pub staged_one : (xs ys : List (List ℕ)) (k : ℕ) (x : List ℕ) → 5 ≤ length xs → ys ≡ set xs (length xs - 4) x → shown_under (Some (one k)) ys ≡ set (shown_under None xs) k x
staged_one xs ys k x r e =
    ap (shown_under (Some (one k))) e ∙ ap (λ z. set (take (length (set xs (length xs - 4) x) - 4) (set xs (length xs - 4) x)) k z) (end_same xs x 4 (omega arith))
    ∙ ap (λ z. set z k x) (places_past xs (length xs - 4) x (omega arith))

pub staged_two : (xs ys zs : List (List ℕ)) (a b : ℕ) (x y : List ℕ) → 5 ≤ length xs → ys ≡ set xs (length xs - 4) x → zs ≡ set ys (length ys - 3) y → shown_under (Some (two a b)) zs ≡ set (set (shown_under None xs) a x) b y
staged_two xs ys zs a b x y r e f =
    let l : length ys ≡ length xs = ap length e ∙ length-set xs (length xs - 4) x in
    let first : get_or zs (length zs - 4) [] ≡ x =
    ap (λ z. get_or z (length z - 4) []) f ∙ end_other ys (length ys - 3) y 4 (omega arith) ∙ ap (λ z. get_or z (length z - 4) []) e ∙ end_same xs x 4 (omega arith) in
    let second : get_or zs (length zs - 3) [] ≡ y = ap (λ z. get_or z (length z - 3) []) f ∙ end_same ys y 3 (omega arith) in
    let places : take (length zs - 4) zs ≡ take (length xs - 4) xs =
    ap (λ z. take (length z - 4) z) f ∙ places_past ys (length ys - 3) y (omega arith) ∙ ap (λ z. take (length z - 4) z) e ∙ places_past xs (length xs - 4) x (omega arith) in
    over_cong (Some (two a b)) _ _ _ _ _ _ first second places

-- a write of the flag while it is down
pub lifted_any : (xs : List (List ℕ)) (p : Option Targets) (v : List ℕ) → 5 ≤ length xs → raised xs ≡ false → slip xs ≡ p → (shown (set xs (length xs - 1) v) ≡ shown xs) ⊎ (shown (set xs (length xs - 1) v) ≡ shown_under p xs)
lifted_any xs p v r d s =
    let f = flagged xs v (omega arith) in
    elim (cases_Bool (all_are 165 v)) [
      | inl e ↦ inr (f ∙ ap (λ b. shown_under (cond b (slip xs) None) xs) e ∙ ap (λ z. shown_under z xs) s)
      | inr e ↦ inl (f ∙ ap (λ b. shown_under (cond b (slip xs) None) xs) e ∙ sym (shown_down xs d))
    ]
