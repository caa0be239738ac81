-- The loaded key of a check.
use Rattle.std.proofs.Common.{◌≡◌, ℕ, ◌<◌, true, false, ◌&&◌, ltb, ◌≢◌, List, [], ◌∷◌, is_some, Some, Option, unwrap_or, sym, refl, ap, ◌∙◌, subst, inl, inr, ⊎_elim, not-suc-le-zero}
use Rattle.std.proofs.lemmas.Slice.Eq.{bytes_eq-Decides}
use Rattle.std.proofs.lemmas.Bool.{and_parts, cases_Bool, false≢true}
use Rattle.std.proofs.lemmas.Bool.Decides.{not_from_Decides}
use Rattle.std.specs.Str.{bytes_eq}
use Rattle.trailer.specs.declared.stage.Stage.{Stage}
use Rattle.trailer.specs.declared.stage.Stage.TheVariants.{Resting, Changing}
use Rattle.trailer.specs.Trailers.{Fields, named, named_by}
use Rattle.law.specs.Suites.{Suite, check}
use Rattle.law.specs.States.{State, Among, trailer, having, other, second_fits, valid, fit, key_at}
use Rattle.law.specs.Shown.{counted}

module _ (c : Suite) where
  -- a key that is found is one of the keys, and has the check
  pub having_is : (x : List ℕ) (ks : List (List ℕ)) → is_some (having c x ks) ≡ true → Among (unwrap_or (having c x ks) []) ks × (check c (unwrap_or (having c x ks) []) ≡ x)
  having_is x [] e = absurd (false≢true e)
  having_is x (k ∷ ks) e =
      let P : Option (List ℕ) → Type 0 = λ o. Among (unwrap_or o []) (k ∷ ks) × (check c (unwrap_or o []) ≡ x) in
      ⊎_elim
      (λ (t : bytes_eq (check c k) x ≡ true).
      let f : having c x (k ∷ ks) ≡ Some k = rw t in subst P (sym f) (inl refl, (bytes_eq-Decides (check c k) x).0 t))
      (λ (t : bytes_eq (check c k) x ≡ false).
      let f : having c x (k ∷ ks) ≡ having c x ks = rw t in
      let r = having_is x ks (ap (λ o. is_some o) (sym f) ∙ e) in
      subst P (sym f) (inr r.0, r.1))
      (cases_Bool (bytes_eq (check c k) x))

  -- the other key is one of the keys, and has another check
  pub other_is : (x : List ℕ) (ks : List (List ℕ)) → is_some (other c x ks) ≡ true → Among (unwrap_or (other c x ks) []) ks × (check c (unwrap_or (other c x ks) []) ≢ x)
  other_is x [] e = absurd (false≢true e)
  other_is x (k ∷ ks) e =
      let P : Option (List ℕ) → Type 0 = λ o. Among (unwrap_or o []) (k ∷ ks) × (check c (unwrap_or o []) ≢ x) in
      ⊎_elim
      (λ (t : bytes_eq (check c k) x ≡ true).
      let f : other c x (k ∷ ks) ≡ other c x ks = rw t in
      let r = other_is x ks (ap (λ o. is_some o) (sym f) ∙ e) in
      subst P (sym f) (inr r.0, r.1))
      (λ (t : bytes_eq (check c k) x ≡ false).
      let f : other c x (k ∷ ks) ≡ Some k = rw t in
      subst P (sym f) (inl refl, not_from_Decides (bytes_eq (check c k) x) (bytes_eq-Decides (check c k) x) t))
      (cases_Bool (bytes_eq (check c k) x))

  -- fitting keys have the first check and, while the key changes, the second
  pub fit_first : (v : State) → fit c v ≡ true → is_some (having c (trailer v).first v.keys) ≡ true
  fit_first v e = (and_parts _ _ e).0

  pub fit_second : (v : State) → fit c v ≡ true → (trailer v).stage ≡ Changing → is_some (having c (trailer v).second v.keys) ≡ true
  fit_second v e s = subst (λ (st : Stage). second_fits c st v.keys (trailer v) ≡ true) s (and_parts _ _ e).1

  -- so they have the check of the key that a sector lies under
  found_by : (s : Stage) (t : Fields) (ks : List (List ℕ)) (i : ℕ) → is_some (having c t.first ks) ≡ true → second_fits c s ks t ≡ true
      → is_some (having c (named_by s t i) ks) ≡ true
  found_by Resting t ks i a b = a
  found_by Changing t ks i a b =
      ⊎_elim
      (λ (l : ltb i t.watermark ≡ true). rw l b)
      (λ (l : ltb i t.watermark ≡ false). rw l a)
      (cases_Bool (ltb i t.watermark))

  pub key_at_is : (v : State) (i : ℕ) → fit c v ≡ true → Among (key_at c v i) v.keys × (check c (key_at c v i) ≡ named (trailer v) i)
  key_at_is v i e =
      having_is (named (trailer v) i) v.keys (found_by (trailer v).stage (trailer v) v.keys i (and_parts _ _ e).0 (and_parts _ _ e).1)

  -- a sector below the count is one of a volume with a valid trailer and fitting keys
  pub record Within (v : State) (n : ℕ) : Type 0 where
    pub valid : valid c v ≡ true
    pub fit : fit c v ≡ true
    pub less : n < (trailer v).reach

  pub below_count : (v : State) (n : ℕ) → n < counted c v → Within v n
  below_count v n h =
      ⊎_elim
      (λ (t : (valid c v && fit c v) ≡ true). record { valid = (and_parts _ _ t).0; fit = (and_parts _ _ t).1; less = rw t at h })
      (λ (t : (valid c v && fit c v) ≡ false). let z : n < 0 = rw t at h in absurd (not-suc-le-zero z))
      (cases_Bool (valid c v && fit c v))
