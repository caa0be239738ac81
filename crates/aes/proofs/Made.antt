-- What `array::from_fn` made of a closure whose calls leave it as it was.
use Rattle.std.proofs.Common.{◌≡◌, ℕ, zero, suc, ◌+◌, ◌<◌, ◌≤◌, List, get_or, sym, subst, ⊎_elim, arith, eq-or-lt_of_le}
use denote.Param.Members.{Mut, Called}
use Rattle.std.specs.Array.{IsFromFnResultFrom}

module _ {F B : Type 0} (g : Mut F (ℕ × Unit {0}) B) (f : F) (P : ℕ → B → Type 0) (ys : List B)
    (each : (i : ℕ) (y : B) (q : F) → Called g f (i, tt) y q → (q ≡ f) × P i y) where
  pub made_from : (i n : ℕ) → IsFromFnResultFrom g f ys i n → (k : ℕ) (e : B) → i ≤ k → k < i + n → P k (get_or ys k e)
  made_from i zero r k e low high = absurd (omega arith)
  made_from i (suc n) r k e low high =
      let met = each i r.1 r.0 r.3 in
      ⊎_elim (λ (here : i ≡ k). subst (λ (j : ℕ). P j (get_or ys j e)) here (subst (P i) (sym (r.2.1 e)) met.1))
      (λ (above : i < k). made_from (i + 1) n (subst (λ (q : F). IsFromFnResultFrom g q ys (i + 1) n) met.0 r.4) k e (omega arith) (omega arith)) (eq-or-lt_of_le low)
