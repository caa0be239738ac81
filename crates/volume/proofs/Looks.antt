-- The trailer as it is read.
use Rattle.std.proofs.Common.{◌≡◌, ℕ, ◌-◌, ◌≤◌, true, false, eqb, List, [], ◌∷◌, length, get_or, None, sym, refl, ap, subst, arith}
use Rattle.std.proofs.lemmas.Bool.{and_left, and_right}
use Rattle.octets.specs.Little.{Bytes}
use Rattle.card.specs.Meaning.{Meaning, count}
use Rattle.trailer.specs.Trailers.{Fields, fields, decode, framed, valid}
use Rattle.trailer.specs.declared.kept.Trailer.{Trailer}
use Rattle.trailer.proofs.Fields.{valid_says}
use Rattle.volume.specs.Looks.{Sees}

nothing : (n T : ℕ) → valid n T [] ≡ false
unfolding valid
nothing n T = and_left (framed n []) _ (and_right (eqb 0 n) _ refl)

empty : (n : ℕ) (xs : List (List ℕ)) → length xs ≡ 0 → valid n (length xs - 1) (get_or xs (length xs - 1) []) ≡ false
empty n [] h = nothing n 0
empty n (x ∷ xs) h = absurd (let z : ⊥ = omega arith in z)

-- a store without sectors has no valid trailer
pub none_seen : (n : ℕ) (m : Meaning) → count m ≡ 0 → Sees n m None
none_seen n m h = empty n m.sectors h

-- the reach of a valid trailer is within its store
pub within : (own end : ℕ) (s : List ℕ) (t : Trailer) → Bytes 520 s → valid own end s ≡ true → fields t ≡ decode s → t.reach ≤ end
within own end s t sector ok ft =
    subst (λ (k : ℕ). k ≤ end) (sym (ap (λ (f : Fields). f.reach) ft)) (valid_says own end s sector ok).room
