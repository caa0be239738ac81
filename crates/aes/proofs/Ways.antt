-- A pass of each way: the cipher, and, on states whose columns lie in the other order, the inverse cipher.
use Rattle.std.proofs.Common.{◌≡◌, ℕ, zero, suc, ◌+◌, ◌-◌, ◌*◌, ◌<◌, false, cond, eqb, List, length, refl, sym, ap, ◌∙◌, subst, add-one, arith, ne_eqb}
use Rattle.octets.specs.Little.{Bytes, le_bytes, xored}
use Rattle.octets.proofs.Lists.{xored_bytes}
use Rattle.octets.proofs.Numbers.{le_bytes_bytes}
use Rattle.aes_tables.specs.Field.{sub, sub_back}
use Rattle.aes_tables.specs.Columns.{at, mix, mix_back}
use Rattle.aes_tables.proofs.Linear.{mix_back_bounded}
use Rattle.aes.specs.Aes.{four, shift_rows, shift_rows_back, sub_bytes, sub_bytes_back, mix_columns_back, round_key, round_with, rounds, rounds_back, ciphered, ciphered_back}
use Rattle.aes.specs.Words.{mirrored_bytes, unmixed_keys, back_key}
use Rattle.aes.specs.Passes.{round_by, last_by, rounds_by, passed_by}
use Rattle.aes.specs.Parts.{is_listed}
use Rattle.aes.specs.Steps.{turn_back_bytes, mixed_bytes, key_bytes}
use Rattle.aes.specs.Laws.{equivalent_round}

rounds_forward : (ks : List ℕ) (n : ℕ) (s : List ℕ) → rounds_by sub mix (round_key ks) n s ≡ rounds ks n s
unfolding rounds_by rounds
rounds_forward ks zero s = refl
rounds_forward ks (suc n) s = ap (λ (t : List ℕ). round_with t (round_key ks (suc n))) (rounds_forward ks n s)

pub pass_forward : (ks s : List ℕ) → passed_by sub mix (round_key ks) s ≡ ciphered ks s
pass_forward ks s = ap (λ (t : List ℕ). xored (shift_rows (sub_bytes t)) (round_key ks 14)) (rounds_forward ks 13 s)

twice : (s : List ℕ) → length s ≡ 16 → s ≡ mirrored_bytes (mirrored_bytes s)
twice s l = sym (is_listed 16 (at s) s l (λ k h. refl))

-- a round on a state in the other order is one with the rows turned right
mirrored_round : (s : List ℕ) (a b c d : ℕ)
    → mirrored_bytes (round_by sub_back mix_back (mirrored_bytes s) (mirrored_bytes (four a b c d))) ≡ xored (mix_columns_back (sub_bytes_back (shift_rows_back s))) (four a b c d)
mirrored_round s a b c d = refl

mirrored_last : (s : List ℕ) (a b c d : ℕ) → mirrored_bytes (last_by sub_back (mirrored_bytes s) (mirrored_bytes (four a b c d))) ≡ xored (sub_bytes_back (shift_rows_back s)) (four a b c d)
mirrored_last s a b c d = refl

pub back_key_at : (ks : List ℕ) (i : ℕ) → i < 13 → back_key ks (i + 1) ≡ mirrored_bytes (round_key (unmixed_keys ks) (13 - i))
back_key_at ks i h =
    let e0 : eqb (i + 1) 0 ≡ false = ne_eqb (i + 1) 0 (λ (z : i + 1 ≡ 0). omega arith) in
    let e1 : eqb (i + 1) 14 ≡ false = ne_eqb (i + 1) 14 (λ (z : i + 1 ≡ 14). omega arith) in
    let d : 14 - (i + 1) ≡ 13 - i = omega arith in
    ap (λ b. mirrored_bytes (cond b (round_key ks 14) (cond (eqb (i + 1) 14) (round_key ks 0) (round_key (unmixed_keys ks) (14 - (i + 1)))))) e0
    ∙ ap (λ b. mirrored_bytes (cond b (round_key ks 0) (round_key (unmixed_keys ks) (14 - (i + 1))))) e1
    ∙ ap (λ (r : ℕ). mirrored_bytes (round_key (unmixed_keys ks) r)) d

-- what is left of the inverse cipher after n rounds of a pass back
record Left (ks : List ℕ) (x n : ℕ) (s : List ℕ) : Type 0 where
  long : length s ≡ 16
  whole : Bytes 16 (mirrored_bytes s)
  left : rounds_back ks (13 - n) (mirrored_bytes s) ≡ rounds_back ks 13 (xored (le_bytes 16 x) (round_key ks 14))

rounds_left : (ks : List ℕ) (x n : ℕ) → n < 14 → Left ks x n (rounds_by sub_back mix_back (back_key ks) n (mirrored_bytes (le_bytes 16 x)))
unfolding rounds_by
rounds_left ks x zero h = record {
  long = refl;
  whole = xored_bytes 16 (le_bytes 16 x) (round_key ks 14) (le_bytes_bytes 16 x) (key_bytes ks 14);
  left = refl;
}
rounds_left ks x (suc n) h =
    let q : List ℕ = rounds_by sub_back mix_back (back_key ks) n (mirrored_bytes (le_bytes 16 x)) in
    let was : Left ks x n q = rounds_left ks x n (omega arith) in
    let s : List ℕ = mirrored_bytes q in
    let uk : List ℕ = unmixed_keys ks in
    let k : List ℕ = round_key uk (13 - n) in
    let t : List ℕ = xored (mix_columns_back (sub_bytes_back (shift_rows_back s))) k in
    let key : back_key ks (suc n) ≡ mirrored_bytes k = ap (back_key ks) (sym (add-one n)) ∙ back_key_at ks n (omega arith) in
    let is : mirrored_bytes (round_by sub_back mix_back q (back_key ks (suc n))) ≡ t =
    ap (λ (w : List ℕ). mirrored_bytes (round_by sub_back mix_back q w)) key
    ∙ ap (λ (z : List ℕ). mirrored_bytes (round_by sub_back mix_back z (mirrored_bytes k))) (twice q was.long)
    ∙ mirrored_round s (at uk (4 * (13 - n))) (at uk (4 * (13 - n) + 1)) (at uk (4 * (13 - n) + 2)) (at uk (4 * (13 - n) + 3)) in
    let r : 13 - n - 1 + 1 ≡ 13 - n = omega arith in
    let e : 13 - suc n ≡ 13 - n - 1 = omega arith in
    record {
      long = ap (λ (w : List ℕ). length (round_by sub_back mix_back q w)) key;
      whole = subst (λ (z : List ℕ). Bytes 16 z) (sym is) (xored_bytes 16 (mix_columns_back (sub_bytes_back (shift_rows_back s))) k (mixed_bytes mix_back mix_back_bounded (sub_bytes_back (shift_rows_back s)) (turn_back_bytes s was.whole)) (key_bytes uk (13 - n)));
      left = ap (λ (m : ℕ). rounds_back ks m (mirrored_bytes (round_by sub_back mix_back q (back_key ks (suc n))))) e
          ∙ equivalent_round ks (13 - n) s _ k was.whole (omega arith) (omega arith) (ap (round_key uk) (sym r)) is ∙ was.left;
    }

pub pass_back : (ks : List ℕ) (x : ℕ) → mirrored_bytes (passed_by sub_back mix_back (back_key ks) (mirrored_bytes (le_bytes 16 x))) ≡ ciphered_back ks (le_bytes 16 x)
unfolding rounds_back
pass_back ks x =
    let q : List ℕ = rounds_by sub_back mix_back (back_key ks) 13 (mirrored_bytes (le_bytes 16 x)) in
    let end : Left ks x 13 q = rounds_left ks x 13 (omega arith) in
    ap (λ (z : List ℕ). mirrored_bytes (last_by sub_back z (back_key ks 14))) (twice q end.long)
    ∙ mirrored_last (mirrored_bytes q) (at ks 0) (at ks 1) (at ks 2) (at ks 3)
    ∙ ap (λ (z : List ℕ). xored (sub_bytes_back (shift_rows_back z)) (round_key ks 0)) end.left
