-- A loaded key is found by its own check.
use Rattle.std.proofs.Common.{◌≡◌, ℕ, ◌≤◌, Bool, true, false, cond, List, [], ◌∷◌, length, get_or, is_some, Some, sym, refl, ap, subst, inl, ⊎_elim, arith}
use Rattle.std.specs.Str.{bytes_eq}
use Rattle.std.proofs.lemmas.Slice.Eq.{bytes_eq-Decides}
use Rattle.std.proofs.lemmas.Bool.{cases_Bool, both_ways}
use Rattle.law.specs.Suites.{Suite, check}
use Rattle.law.specs.States.{Among, having}

module _ (c : Suite) where
  own_check : (k : List ℕ) → bytes_eq (check c k) (check c k) ≡ true
  own_check k = (bytes_eq-Decides (check c k) (check c k)).1 refl

  pub having_loaded : (k : List ℕ) (ks : List (List ℕ)) → Among k ks → is_some (having c (check c k) ks) ≡ true
  having_loaded k [] a = absurd a
  having_loaded k (j ∷ ks) a =
      let P : Bool → Type 0 = λ b. is_some (cond b (Some j) (having c (check c k) ks)) ≡ true in
      ⊎_elim
      (λ (t : bytes_eq (check c j) (check c k) ≡ true). subst P (sym t) refl)
      (λ (t : bytes_eq (check c j) (check c k) ≡ false). subst P (sym t)
      (⊎_elim
      (λ (e : k ≡ j). absurd (both_ways (bytes_eq (check c j) (check c k)) t ((bytes_eq-Decides (check c j) (check c k)).1 (ap (check c) (sym e)))))
      (λ (m : Among k ks). having_loaded k ks m)
      a))
      (cases_Bool (bytes_eq (check c j) (check c k)))

  -- the first key is the first one that has its check
  pub having_first : (ks : List (List ℕ)) → 1 ≤ length ks → having c (check c (get_or ks 0 [])) ks ≡ Some (get_or ks 0 [])
  having_first [] l = absurd (let z : ⊥ = omega arith in z)
  having_first (k ∷ ks) l = ap (λ (b : Bool). cond b (Some k) (having c (check c k) ks)) (own_check k)

pub first_among : (ks : List (List ℕ)) → 1 ≤ length ks → Among (get_or ks 0 []) ks
first_among [] l = absurd (let z : ⊥ = omega arith in z)
first_among (k ∷ ks) l = inl refl
