-- A block as two words, and the bounds of a key's words.
use Rattle.std.specs.Prelude.{◌≡◌, ℕ, zero, suc, ◌+◌, ◌%◌, ◌^◌, ◌<◌, ◌≤◌, List, ◌++◌, take, drop}
use Rattle.std.proofs.Common.{ap, ap₂, ◌∙◌, arith, take-append-drop, length-drop, take_all}
use Rattle.std.proofs.lemmas.Nat.{xor_lt}
use Rattle.octets.specs.Little.{Bytes, le_number, le_bytes}
use Rattle.octets.proofs.Lists.{part_bytes, append_bytes}
use Rattle.octets.proofs.Numbers.{number_bytes, number_lt, bytes_number, le_bytes_bytes}
use Rattle.speck.specs.Words.{rotr}
use Rattle.speck.specs.Speck.{Pair, pair, Keys, keys_first, keys_next, keys_at, round_key, pair_of, block_of}
use Rattle.speck.specs.Rounds.{Fit, rotl3_lt}

pub pair_fit : (block : List ℕ) → Bytes 16 block → Fit (pair_of block)
pair_fit block h = (number_lt 8 (take 8 (drop 8 block)) (part_bytes 8 8 16 block (omega arith) h), number_lt 8 (take 8 block) (part_bytes 0 8 16 block (omega arith) h))

pub block_pair : (block : List ℕ) → Bytes 16 block → block_of (pair_of block) ≡ block
block_pair block h =
    let e = h.0 in
    let whole : take 8 (drop 8 block) ≡ drop 8 block = take_all 8 (drop 8 block) (simp length-drop (omega arith)) in
    ap₂ ◌++◌ (bytes_number 8 (take 8 block) (part_bytes 0 8 16 block (omega arith) h))
    (bytes_number 8 (take 8 (drop 8 block)) (part_bytes 8 8 16 block (omega arith) h) ∙ whole)
    ∙ take-append-drop 8 block

pub pair_block : (p : Pair) → Fit p → pair_of (block_of p) ≡ p
pair_block p f =
    ap (λ (m : ℕ). pair m (le_number (le_bytes 8 p.y))) (number_bytes 8 p.x f.0) ∙ ap (pair p.x) (number_bytes 8 p.y f.1)

pub block_bytes : (p : Pair) → Bytes 16 (block_of p)
block_bytes p = append_bytes 8 8 (le_bytes 8 p.y) (le_bytes 8 p.x) (le_bytes_bytes 8 p.y) (le_bytes_bytes 8 p.x)

record Fits (s : Keys) : Type 0 where
  fk : s.k < 2 ^ 64
  f0 : s.l0 < 2 ^ 64
  f1 : s.l1 < 2 ^ 64
  f2 : s.l2 < 2 ^ 64

next_fits : (i : ℕ) (s : Keys) → i < 2 ^ 64 → Fits s → Fits (keys_next i s)
next_fits i s h f =
    let b : (s.k + rotr 8 s.l0) % 2 ^ 64 < 2 ^ 64 = omega arith in
    let n = xor_lt 64 _ i b h in
    record { fk = xor_lt 64 _ _ (rotl3_lt s.k f.fk) n; f0 = f.f1; f1 = f.f2; f2 = n }

first_fits : (key : List ℕ) → Bytes 32 key → Fits (keys_first key)
first_fits key h =
    let word : (i : ℕ) → i + 8 ≤ 32 → le_number (take 8 (drop i key)) < 2 ^ 64 = λ i l. number_lt 8 (take 8 (drop i key)) (part_bytes i 8 32 key l h) in
    record { fk = word 0 (omega arith); f0 = word 8 (omega arith); f1 = word 16 (omega arith); f2 = word 24 (omega arith) }

keys_fit : (key : List ℕ) → Bytes 32 key → (i : ℕ) → i < 2 ^ 64 → Fits (keys_at key i)
unfolding keys_at
keys_fit key h zero l = first_fits key h
keys_fit key h (suc i) l = next_fits i (keys_at key i) (omega arith) (keys_fit key h i (omega arith))

pub keys_low : (key : List ℕ) → Bytes 32 key → (i : ℕ) → i < 34 → round_key key i < 2 ^ 64
keys_low key h i l = (keys_fit key h i (omega arith)).fk
