-- A turn of the loops over the round keys.
use Rattle.std.proofs.Common.{◌≡◌, ℕ, suc, ◌+◌, ◌<◌, List, [], ◌∷◌, length, get_or, sym, refl, ap, ◌∙◌, add-one, arith}
use Rattle.std.proofs.lemmas.List.{length_push, get_or_push, get_or_append_left}
use Rattle.std.specs.List.{push}
use Rattle.speck.specs.Speck.{Pair, round, round_back, rounds, rounds_back}

pub turn : (ks : ℕ → ℕ) (i : ℕ) (p q r : Pair) → p ≡ rounds ks i q → r ≡ round (ks i) p → r ≡ rounds ks (i + 1) q
unfolding rounds
turn ks i p q r e f = f ∙ ap (round (ks i)) e ∙ ap (λ (n : ℕ). rounds ks n q) (sym (add-one i))

-- on the way back from q by n rounds: p, with the first of the n keys left
pub record Left (ks : ℕ → ℕ) (n : ℕ) (left : List ℕ) (p q : Pair) : Type 0 where
  pub keys : (i : ℕ) → i < length left → get_or left i 0 ≡ ks i
  pub back : rounds_back ks (length left) p ≡ rounds_back ks n q

pub all_left : (ks : ℕ → ℕ) (n : ℕ) (keys left : List ℕ) (p q : Pair) → length keys ≡ n → ((i : ℕ) → i < n → get_or keys i 0 ≡ ks i) → left ≡ keys → p ≡ q
    → Left ks n left p q
all_left ks n keys left p q l are e f = rw (e, f) (record { keys = λ i h. are i (omega arith); back = ap (λ (m : ℕ). rounds_back ks m q) l })

pub one_back : (ks : ℕ → ℕ) (n : ℕ) (left less : List ℕ) (k : ℕ) (p q r : Pair) → left ≡ push less k → r ≡ round_back k p → Left ks n left p q
    → Left ks n less r q
unfolding rounds_back
one_back ks n left less k p q r e f w =
    let l : length left ≡ suc (length less) = ap length e ∙ length_push less k ∙ add-one (length less) in
    let last : k ≡ ks (length less) = sym (ap (λ (xs : List ℕ). get_or xs (length less) 0) e ∙ get_or_push less k 0 (length less) refl) ∙ w.keys (length less) (omega arith) in
    record {
      keys = λ i h. sym (get_or_append_left less (k ∷ []) 0 i h) ∙ sym (ap (λ (xs : List ℕ). get_or xs i 0) e) ∙ w.keys i (omega arith);
      back = ap (rounds_back ks (length less)) (f ∙ ap (λ (m : ℕ). round_back m p) last) ∙ ap (λ (m : ℕ). rounds_back ks m p) (sym l) ∙ w.back;
    }

pub none_left : (ks : ℕ → ℕ) (n : ℕ) (left : List ℕ) (p q : Pair) → length left ≡ 0 → Left ks n left p q → p ≡ rounds_back ks n q
unfolding rounds_back
none_left ks n left p q l w = ap (λ (m : ℕ). rounds_back ks m p) (sym l) ∙ w.back
