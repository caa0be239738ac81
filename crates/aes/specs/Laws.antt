-- AES keeps the law of a cipher, and the equivalent inverse cipher is its way back.
use Rattle.std.specs.Prelude.{◌≡◌, ℕ, zero, suc, ◌+◌, ◌-◌, ◌*◌, ◌<◌, List, ◌++◌}
use Rattle.std.proofs.Math.Path.{refl, ap}
use Rattle.std.proofs.Common.{sym, ap₂, ◌∙◌, arith}
use Rattle.octets.specs.Little.{Bytes, le_bytes, xored}
use Rattle.octets.proofs.Lists.{xored_bytes, xored_twice}
use Rattle.cipher.specs.Maps.{Inverse}
use Rattle.aes_tables.specs.Columns.{at, mix, mix_back, times, unmixed}
use Rattle.aes_tables.proofs.Linear.{mix_bounded, mix_back_bounded}
use Rattle.aes_tables.proofs.Places.{unmixed_bytes}
use Rattle.aes.specs.Aes.{sub_bytes, sub_bytes_back, shift_rows, shift_rows_back, mix_columns, mix_columns_back, schedule, round_key, round_with, round_back, rounds, rounds_back, ciphered, ciphered_back, aes, aes_back}
use Rattle.aes.specs.Words.{unmixed_keys}
use Rattle.aes.specs.Parts.{listed_at}
use Rattle.aes.specs.Steps.{turn_bytes, turn_back_bytes, turn_undone, turn_redone, mix_undone, mix_redone, mixed_bytes, mixed_xor, key_bytes}

added_twice : (s k : List ℕ) → Bytes 16 s → Bytes 16 k → xored (xored s k) k ≡ s
added_twice s k h hk = xored_twice s k (h.0 ∙ sym hk.0)

-- a round and the way back
round_bytes : (s k : List ℕ) → Bytes 16 s → Bytes 16 k → Bytes 16 (round_with s k)
round_bytes s k h hk = xored_bytes 16 (mix_columns (shift_rows (sub_bytes s))) k (mixed_bytes mix mix_bounded (shift_rows (sub_bytes s)) (turn_bytes s h)) hk

round_back_bytes : (s k : List ℕ) → Bytes 16 s → Bytes 16 k → Bytes 16 (round_back s k)
round_back_bytes s k h hk =
    let t : List ℕ = sub_bytes_back (shift_rows_back s) in
    mixed_bytes mix_back mix_back_bounded (xored t k) (xored_bytes 16 t k (turn_back_bytes s h) hk)

-- a round is undone after the turn of the next round
round_undone : (s k : List ℕ) → Bytes 16 s → Bytes 16 k → round_back (shift_rows (sub_bytes (round_with s k))) k ≡ shift_rows (sub_bytes s)
round_undone s k h hk =
    let t : List ℕ = shift_rows (sub_bytes s) in
    let ht = turn_bytes s h in
    ap (λ (z : List ℕ). mix_columns_back (xored z k)) (turn_undone (round_with s k) (round_bytes s k h hk))
    ∙ ap mix_columns_back (added_twice (mix_columns t) k (mixed_bytes mix mix_bounded t ht) hk) ∙ mix_undone t ht

round_redone : (s k : List ℕ) → Bytes 16 s → Bytes 16 k → xored (mix_columns (round_back s k)) k ≡ sub_bytes_back (shift_rows_back s)
round_redone s k h hk =
    let t : List ℕ = sub_bytes_back (shift_rows_back s) in
    let ht = turn_back_bytes s h in
    ap (λ (z : List ℕ). xored z k) (mix_redone (xored t k) (xored_bytes 16 t k ht hk)) ∙ added_twice t k ht hk

module _ (ks : List ℕ) where
  rounds_bytes : (n : ℕ) (s : List ℕ) → Bytes 16 s → Bytes 16 (rounds ks n s)
  unfolding rounds
  rounds_bytes zero s h = xored_bytes 16 s (round_key ks 0) h (key_bytes ks 0)
  rounds_bytes (suc n) s h = round_bytes (rounds ks n s) (round_key ks (suc n)) (rounds_bytes n s h) (key_bytes ks (suc n))

  rounds_back_bytes : (n : ℕ) (s : List ℕ) → Bytes 16 s → Bytes 16 (rounds_back ks n s)
  unfolding rounds_back
  rounds_back_bytes zero s h = h
  rounds_back_bytes (suc n) s h = rounds_back_bytes n (round_back s (round_key ks (suc n))) (round_back_bytes s (round_key ks (suc n)) h (key_bytes ks (suc n)))

  rounds_undone : (n : ℕ) (s : List ℕ) → Bytes 16 s → rounds_back ks n (shift_rows (sub_bytes (rounds ks n s))) ≡ shift_rows (sub_bytes (xored s (round_key ks 0)))
  unfolding rounds rounds_back
  rounds_undone zero s h = refl
  rounds_undone (suc n) s h = ap (rounds_back ks n) (round_undone (rounds ks n s) (round_key ks (suc n)) (rounds_bytes n s h) (key_bytes ks (suc n))) ∙ rounds_undone n s h

  rounds_redone : (n : ℕ) (s : List ℕ) → Bytes 16 s
      → shift_rows (sub_bytes (rounds ks n (xored (sub_bytes_back (shift_rows_back (rounds_back ks n s))) (round_key ks 0)))) ≡ s
  unfolding rounds rounds_back
  rounds_redone zero s h =
      ap (λ (z : List ℕ). shift_rows (sub_bytes z)) (added_twice (sub_bytes_back (shift_rows_back s)) (round_key ks 0) (turn_back_bytes s h) (key_bytes ks 0)) ∙ turn_redone s h
  rounds_redone (suc n) s h =
      let k = round_key ks (suc n) in
      ap (λ (z : List ℕ). shift_rows (sub_bytes (xored (mix_columns z) k))) (rounds_redone n (round_back s k) (round_back_bytes s k h (key_bytes ks (suc n))))
      ∙ ap (λ (z : List ℕ). shift_rows (sub_bytes z)) (round_redone s k h (key_bytes ks (suc n))) ∙ turn_redone s h

  ciphered_undone : (s : List ℕ) → Bytes 16 s → ciphered_back ks (ciphered ks s) ≡ s
  ciphered_undone s h =
      let t : List ℕ = shift_rows (sub_bytes (rounds ks 13 s)) in
      ap (λ (z : List ℕ). xored (sub_bytes_back (shift_rows_back (rounds_back ks 13 z))) (round_key ks 0)) (added_twice t (round_key ks 14) (turn_bytes (rounds ks 13 s) (rounds_bytes 13 s h)) (key_bytes ks 14))
      ∙ ap (λ (z : List ℕ). xored (sub_bytes_back (shift_rows_back z)) (round_key ks 0)) (rounds_undone 13 s h)
      ∙ ap (λ (z : List ℕ). xored z (round_key ks 0)) (turn_undone (xored s (round_key ks 0)) (xored_bytes 16 s (round_key ks 0) h (key_bytes ks 0)))
      ∙ added_twice s (round_key ks 0) h (key_bytes ks 0)

  ciphered_redone : (s : List ℕ) → Bytes 16 s → ciphered ks (ciphered_back ks s) ≡ s
  ciphered_redone s h =
      ap (λ (z : List ℕ). xored z (round_key ks 14)) (rounds_redone 13 (xored s (round_key ks 14)) (xored_bytes 16 s (round_key ks 14) h (key_bytes ks 14)))
      ∙ added_twice s (round_key ks 14) h (key_bytes ks 14)

  ciphered_bytes : (s : List ℕ) → Bytes 16 s → Bytes 16 (ciphered ks s)
  ciphered_bytes s h = xored_bytes 16 (shift_rows (sub_bytes (rounds ks 13 s))) (round_key ks 14) (turn_bytes (rounds ks 13 s) (rounds_bytes 13 s h)) (key_bytes ks 14)

  ciphered_back_bytes : (s : List ℕ) → Bytes 16 s → Bytes 16 (ciphered_back ks s)
  ciphered_back_bytes s h =
      let t : List ℕ = rounds_back ks 13 (xored s (round_key ks 14)) in
      xored_bytes 16 (sub_bytes_back (shift_rows_back t)) (round_key ks 0)
      (turn_back_bytes t (rounds_back_bytes 13 (xored s (round_key ks 14)) (xored_bytes 16 s (round_key ks 14) h (key_bytes ks 14)))) (key_bytes ks 0)

pub aes_inverse : Inverse aes aes_back
unfolding aes aes_back
aes_inverse = record {
  undone = λ key s hk h. ciphered_undone (schedule key) s h;
  redone = λ key s hk h. ciphered_redone (schedule key) s h;
  forward_block = λ key s hk h. ciphered_bytes (schedule key) s h;
  back_block = λ key s hk h. ciphered_back_bytes (schedule key) s h;
}

-- the round keys of the equivalent inverse cipher
unmixed_at : (ks : List ℕ) (i : ℕ) → i < 60 → le_bytes 4 (at (unmixed_keys ks) i) ≡ times mix_back (le_bytes 4 (at ks i))
unmixed_at ks i h = ap (le_bytes 4) (listed_at 60 (λ i. unmixed (at ks i)) i h) ∙ unmixed_bytes (at ks i)

pub key_unmixed : (ks : List ℕ) (r : ℕ) → r < 15 → round_key (unmixed_keys ks) r ≡ mix_columns_back (round_key ks r)
key_unmixed ks r h =
    ap₂ ◌++◌ (unmixed_at ks (4 * r) (omega arith))
    (ap₂ ◌++◌ (unmixed_at ks (4 * r + 1) (omega arith)) (ap₂ ◌++◌ (unmixed_at ks (4 * r + 2) (omega arith)) (unmixed_at ks (4 * r + 3) (omega arith))))

-- a round of the equivalent inverse cipher is a round back
pub equivalent_round : (ks : List ℕ) (r : ℕ) (s t k : List ℕ) → Bytes 16 s → 0 < r → r < 15 → k ≡ round_key (unmixed_keys ks) (r - 1 + 1)
    → t ≡ xored (mix_columns_back (sub_bytes_back (shift_rows_back s))) k → rounds_back ks (r - 1) t ≡ rounds_back ks r s
unfolding rounds_back
equivalent_round ks r s t k hs pos lt ek et =
    let d : r - 1 + 1 ≡ suc (r - 1) = omega arith in
    let e : suc (r - 1) ≡ r = omega arith in
    let l : suc (r - 1) < 15 = omega arith in
    let key : List ℕ = round_key ks (suc (r - 1)) in
    let g : List ℕ = sub_bytes_back (shift_rows_back s) in
    ap (rounds_back ks (r - 1))
    (et ∙ ap (xored (mix_columns_back g)) (ek ∙ ap (round_key (unmixed_keys ks)) d ∙ key_unmixed ks (suc (r - 1)) l)
    ∙ sym (mixed_xor mix_back g key mix_back_bounded (turn_back_bytes s hs) (key_bytes ks (suc (r - 1)))))
    ∙ ap (λ (n : ℕ). rounds_back ks n s) e
