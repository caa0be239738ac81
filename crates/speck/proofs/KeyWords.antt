-- The words of a key, from its chunks of eight bytes.
use Rattle.std.proofs.Common.{◌≡◌, ℕ, ◌/◌, List, [], ◌∷◌, length, get_or, take, drop, refl, ap, ◌∙◌, arith, take-take, drop-drop}
use Rattle.std.specs.Int.{w64, from_le_bytes}
use Rattle.std.specs.Simd.{first_chunks}
use Rattle.octets.specs.Little.{le_number}

number8 : (s : List ℕ) → from_le_bytes w64 s ≡ le_number (take 8 s)
number8 [] = refl
number8 (a ∷ []) = omega arith
number8 (a ∷ b ∷ []) = omega arith
number8 (a ∷ b ∷ c ∷ []) = omega arith
number8 (a ∷ b ∷ c ∷ d ∷ []) = omega arith
number8 (a ∷ b ∷ c ∷ d ∷ e ∷ []) = omega arith
number8 (a ∷ b ∷ c ∷ d ∷ e ∷ f ∷ []) = omega arith
number8 (a ∷ b ∷ c ∷ d ∷ e ∷ f ∷ g ∷ []) = omega arith
number8 (a ∷ b ∷ c ∷ d ∷ e ∷ f ∷ g ∷ h ∷ s) = omega arith

chunk_number : (chunks : List (List ℕ)) (i : ℕ) (s : List ℕ) → get_or chunks i [] ≡ take 8 s → from_le_bytes w64 (get_or chunks i []) ≡ le_number (take 8 s)
chunk_number chunks i s e = ap (from_le_bytes w64) e ∙ number8 (take 8 s) ∙ ap le_number (take-take 8 8 s (omega arith))

pub chunk_words : (key : List ℕ) (chunks : List (List ℕ)) → length key ≡ 32 → chunks ≡ first_chunks 8 (length key / 8) key
    → (from_le_bytes w64 (get_or chunks 0 []) ≡ le_number (take 8 key)) × (from_le_bytes w64 (get_or chunks 1 []) ≡ le_number (take 8 (drop 8 key)))
    × (from_le_bytes w64 (get_or chunks 2 []) ≡ le_number (take 8 (drop 16 key))) × (from_le_bytes w64 (get_or chunks 3 []) ≡ le_number (take 8 (drop 24 key)))
chunk_words key chunks l e =
    let four : length key / 8 ≡ 4 = omega arith in
    let is = e ∙ ap (λ (n : ℕ). first_chunks 8 n key) four in
    let at = λ (i : ℕ). ap (λ (cs : List (List ℕ)). get_or cs i []) is in (
      chunk_number chunks 0 key (at 0),
      chunk_number chunks 1 (drop 8 key) (at 1),
      chunk_number chunks 2 (drop 16 key) (at 2 ∙ ap (take 8) (drop-drop 8 8 key)),
      chunk_number chunks 3 (drop 24 key) (at 3 ∙ ap (take 8) (drop-drop 8 8 (drop 8 key) ∙ drop-drop 16 8 key)),
    )
