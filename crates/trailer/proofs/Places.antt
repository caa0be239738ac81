-- Parts put one after the other.
use Rattle.std.proofs.Common.{◌≡◌, ℕ, ◌+◌, List, [], ◌++◌, length, take, drop, replicate, sym, ap, ◌∙◌, append_assoc, append-nil, arith, length-append}
use Rattle.std.proofs.lemmas.List.{take_at, drop_at, drop-drop}

-- a part put at place k of s, which is front there and rest from there on
laid : (k : ℕ) (front rest part s : List ℕ) → length front ≡ k → s ≡ front ++ rest
    → take k s ++ (part ++ drop (k + length part) s) ≡ (front ++ part) ++ drop (length part) rest
laid k front rest part s l e =
    let before : take k s ≡ front = ap (take k) e ∙ take_at front rest k l in
    let after : drop (k + length part) s ≡ drop (length part) rest = sym (drop-drop (length part) k s) ∙ ap (drop (length part)) (ap (drop k) e ∙ drop_at front rest k l) in
    ap (λ xs. xs ++ (part ++ drop (k + length part) s)) before ∙ ap (λ xs. front ++ (part ++ xs)) after ∙ sym (append_assoc front part (drop (length part) rest))

-- two numbers of four bytes, a gap of four zeros, and three parts of sixteen bytes, put into zeros after the head
module _ (head a b c d e : List ℕ) (lh : length head ≡ 460) (la : length a ≡ 4) (lb : length b ≡ 4) (lc : length c ≡ 16) (ld : length d ≡ 16) (le : length e ≡ 16) where
  pub all_laid : (s₀ s₁ s₂ s₃ s₄ s₅ : List ℕ) → s₀ ≡ head ++ replicate 60 0
      → s₁ ≡ take 460 s₀ ++ (a ++ drop (460 + length a) s₀) → s₂ ≡ take 464 s₁ ++ (b ++ drop (464 + length b) s₁)
      → s₃ ≡ take 472 s₂ ++ (c ++ drop (472 + length c) s₂) → s₄ ≡ take 488 s₃ ++ (d ++ drop (488 + length d) s₃)
      → s₅ ≡ take 504 s₄ ++ (e ++ drop (504 + length e) s₄) → s₅ ≡ head ++ (a ++ (b ++ (replicate 4 0 ++ (c ++ (d ++ e)))))
  all_laid s₀ s₁ s₂ s₃ s₄ s₅ e₀ e₁ e₂ e₃ e₄ e₅ =
      let gap : List ℕ = replicate 4 0 in
      let h₁ = head ++ a in
      let h₂ = h₁ ++ b in
      let h₃ = h₂ ++ gap in
      let h₄ = h₃ ++ c in
      let h₅ = h₄ ++ d in
      let l₁ : length h₁ ≡ 464 = length-append head a ∙ omega arith in
      let l₂ : length h₂ ≡ 468 = length-append h₁ b ∙ omega arith in
      let l₃ : length h₃ ≡ 472 = length-append h₂ gap ∙ omega arith in
      let l₄ : length h₄ ≡ 488 = length-append h₃ c ∙ omega arith in
      let l₅ : length h₅ ≡ 504 = length-append h₄ d ∙ omega arith in
      let p₁ : s₁ ≡ h₁ ++ replicate 56 0 = e₁ ∙ laid 460 head (replicate 60 0) a s₀ lh e₀ ∙ ap (λ n. h₁ ++ drop n (replicate 60 0)) la in
      let p₂ : s₂ ≡ h₂ ++ replicate 52 0 = e₂ ∙ laid 464 h₁ (replicate 56 0) b s₁ l₁ p₁ ∙ ap (λ n. h₂ ++ drop n (replicate 56 0)) lb in
      let p₃ : s₂ ≡ h₃ ++ replicate 48 0 = p₂ ∙ sym (append_assoc h₂ gap (replicate 48 0)) in
      let p₄ : s₃ ≡ h₄ ++ replicate 32 0 = e₃ ∙ laid 472 h₃ (replicate 48 0) c s₂ l₃ p₃ ∙ ap (λ n. h₄ ++ drop n (replicate 48 0)) lc in
      let p₅ : s₄ ≡ h₅ ++ replicate 16 0 = e₄ ∙ laid 488 h₄ (replicate 32 0) d s₃ l₄ p₄ ∙ ap (λ n. h₅ ++ drop n (replicate 32 0)) ld in
      let p₆ : s₅ ≡ (h₅ ++ e) ++ [] = e₅ ∙ laid 504 h₅ (replicate 16 0) e s₄ l₅ p₅ ∙ ap (λ n. (h₅ ++ e) ++ drop n (replicate 16 0)) le in
      p₆ ∙ append-nil (h₅ ++ e) ∙ append_assoc h₄ d e ∙ append_assoc h₃ c (d ++ e) ∙ append_assoc h₂ gap (c ++ (d ++ e))
      ∙ append_assoc h₁ b (gap ++ (c ++ (d ++ e))) ∙ append_assoc head a (b ++ (gap ++ (c ++ (d ++ e))))
