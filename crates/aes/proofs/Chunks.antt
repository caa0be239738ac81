-- Chunks of four: of bytes as words, and of words as round keys.
use Rattle.std.proofs.Common.{◌≡◌, ℕ, zero, suc, ◌+◌, ◌*◌, ◌<◌, List, ◌++◌, take, drop, get_or, ap, ap₂, ◌∙◌, add-zero, arith}
use Rattle.std.proofs.lemmas.List.{drop-drop, take-take, get_or-take, get_or-drop}
use Rattle.std.specs.Simd.{first_chunks}
use Rattle.octets.specs.Little.{le_bytes, le_number}
use Rattle.octets.proofs.Numbers.{number4_is}
use Rattle.aes_tables.specs.Columns.{at}
use Rattle.aes.specs.Aes.{four, round_key}

pub chunk_at : {A : Type 0} (n k : ℕ) (xs : List A) (i : ℕ) (d : List A) → i < k → get_or (first_chunks n k xs) i d ≡ take n (drop (n * i) xs)
chunk_at n zero xs i d h = absurd (omega arith)
chunk_at n (suc k) xs zero d h = let e : n * 0 ≡ 0 = omega arith in rw e
chunk_at n (suc k) xs (suc i) d h =
    let e : n + n * i ≡ n * suc i = omega arith in
    chunk_at n k (drop n xs) i d (omega arith) ∙ ap (take n) (drop-drop (n * i) n xs ∙ ap (λ m. drop m xs) e)

pub chunk_number : (xs chunk : List ℕ) (i : ℕ) → chunk ≡ take 4 (drop (4 * i) xs)
    → get_or chunk 0 0 + get_or chunk 1 0 * 256 + get_or chunk 2 0 * 65536 + get_or chunk 3 0 * 16777216 ≡ le_number (take 4 (drop (4 * i) xs))
chunk_number xs chunk i e = number4_is chunk 0 ∙ ap (λ s. le_number (take 4 s)) e ∙ ap le_number (take-take 4 4 (drop (4 * i) xs) (omega arith))

pub chunk_key : (xs chunk : List ℕ) (r : ℕ) → chunk ≡ take 4 (drop (4 * r) xs) → four (at chunk 0) (at chunk 1) (at chunk 2) (at chunk 3) ≡ round_key xs r
chunk_key xs chunk r e =
    let word : (j : ℕ) → j < 4 → le_bytes 4 (at chunk j) ≡ le_bytes 4 (at xs (4 * r + j)) =
    λ j h. ap (λ s. le_bytes 4 (at s j)) e ∙ ap (le_bytes 4) (get_or-take 4 (drop (4 * r) xs) j 0 h ∙ get_or-drop (4 * r) xs j 0) in
    ap₂ ◌++◌ (word 0 (omega arith) ∙ ap (λ i. le_bytes 4 (at xs i)) (add-zero (4 * r)))
    (ap₂ ◌++◌ (word 1 (omega arith)) (ap₂ ◌++◌ (word 2 (omega arith)) (word 3 (omega arith))))
