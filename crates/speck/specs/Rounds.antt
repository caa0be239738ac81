-- A round keeps words words and is undone by its way back, and so are all the rounds. The law of the cipher may cite
-- only specs/, and what is said of one round is tied to `round` in the law alone: so a wrong round is refused by the law
-- of the `impl`, and not by a lemma here.
use Rattle.std.specs.Prelude.{◌≡◌, ℕ, zero, suc, ◌+◌, ◌-◌, ◌%◌, ◌^◌, ◌<◌, ◌≤◌, bit_xor}
use Rattle.std.proofs.Math.Path.{refl, ap}
use Rattle.std.proofs.Common.{◌∙◌, arith}
use Rattle.std.proofs.lemmas.Nat.{xor_lt}
use Rattle.octets.proofs.Lists.{xor_twice}
use Rattle.speck.specs.Words.{rotr, rotl}
use Rattle.speck.specs.Speck.{Pair, pair, round, round_back, rounds, rounds_back}
use Rattle.speck.specs.Rotate.{turned_lt, turned_on}

abbrev pub Fit : Pair → Type 0
Fit p = (p.x < 2 ^ 64) × (p.y < 2 ^ 64)

-- a round, written out
abbrev pub mixed : ℕ → Pair → Pair
mixed k p =
    let x' : ℕ = bit_xor ((rotr 8 p.x + p.y) % 2 ^ 64) k in
    pair x' (bit_xor (rotl 3 p.y) x')

-- what is used of one round
pub record Turns : Type 0 where
  pub fit : (k : ℕ) (p : Pair) → k < 2 ^ 64 → Fit p → Fit (round k p)
  pub back_fit : (k : ℕ) (p : Pair) → k < 2 ^ 64 → Fit p → Fit (round_back k p)
  pub undone : (k : ℕ) (p : Pair) → k < 2 ^ 64 → Fit p → round_back k (round k p) ≡ p
  pub redone : (k : ℕ) (p : Pair) → k < 2 ^ 64 → Fit p → round k (round_back k p) ≡ p

minus_plus : (a y : ℕ) → a < 2 ^ 64 → y < 2 ^ 64 → ((a + y) % 2 ^ 64 + (2 ^ 64 - y)) % 2 ^ 64 ≡ a
minus_plus a y h k = omega arith

plus_minus : (a y : ℕ) → a < 2 ^ 64 → y < 2 ^ 64 → ((a + (2 ^ 64 - y)) % 2 ^ 64 + y) % 2 ^ 64 ≡ a
plus_minus a y h k = omega arith

pub rotl3_lt : (x : ℕ) → x < 2 ^ 64 → rotl 3 x < 2 ^ 64
rotl3_lt = turned_lt 3 61 refl

rotr3_lt : (x : ℕ) → x < 2 ^ 64 → rotr 3 x < 2 ^ 64
rotr3_lt = turned_lt 61 3 refl

rotr8_lt : (x : ℕ) → x < 2 ^ 64 → rotr 8 x < 2 ^ 64
rotr8_lt = turned_lt 56 8 refl

rotl8_lt : (x : ℕ) → x < 2 ^ 64 → rotl 8 x < 2 ^ 64
rotl8_lt = turned_lt 8 56 refl

pub round_fit : (k : ℕ) (p : Pair) → k < 2 ^ 64 → Fit p → Fit (mixed k p)
round_fit k p hk f =
    let s : (rotr 8 p.x + p.y) % 2 ^ 64 < 2 ^ 64 = omega arith in
    let a = xor_lt 64 _ k s hk in
    (a, xor_lt 64 _ _ (rotl3_lt p.y f.1) a)

pub round_back_fit : (k : ℕ) (p : Pair) → k < 2 ^ 64 → Fit p → Fit (round_back k p)
round_back_fit k p hk f =
    let n : ℕ = rotr 3 (bit_xor p.y p.x) in
    let s : (bit_xor p.x k + (2 ^ 64 - n)) % 2 ^ 64 < 2 ^ 64 = omega arith in
    (rotl8_lt _ s, rotr3_lt _ (xor_lt 64 _ _ f.1 f.0))

pub undone : (k : ℕ) (p : Pair) → k < 2 ^ 64 → Fit p → round_back k (mixed k p) ≡ p
undone k p hk f =
    let s : ℕ = (rotr 8 p.x + p.y) % 2 ^ 64 in
    let n : ℕ = bit_xor s k in
    let ey : rotr 3 (bit_xor (bit_xor (rotl 3 p.y) n) n) ≡ p.y = ap (rotr 3) (xor_twice (rotl 3 p.y) n) ∙ turned_on 3 61 refl p.y f.1 in
    let ex : rotl 8 ((bit_xor n k + (2 ^ 64 - p.y)) % 2 ^ 64) ≡ p.x =
    ap (λ (a : ℕ). rotl 8 ((a + (2 ^ 64 - p.y)) % 2 ^ 64)) (xor_twice s k)
    ∙ ap (rotl 8) (minus_plus (rotr 8 p.x) p.y (rotr8_lt p.x f.0) f.1) ∙ turned_on 56 8 refl p.x f.0 in
    ap (λ (m : ℕ). pair (rotl 8 ((bit_xor n k + (2 ^ 64 - m)) % 2 ^ 64)) m) ey ∙ ap (λ (m : ℕ). pair m p.y) ex

pub redone : (k : ℕ) (p : Pair) → k < 2 ^ 64 → Fit p → mixed k (round_back k p) ≡ p
redone k p hk f =
    let z : ℕ = bit_xor p.y p.x in
    let hz = xor_lt 64 p.y p.x f.1 f.0 in
    let n : ℕ = rotr 3 z in
    let hn = rotr3_lt z hz in
    let w : ℕ = bit_xor p.x k in
    let hw = xor_lt 64 p.x k f.0 hk in
    let s : ℕ = (w + (2 ^ 64 - n)) % 2 ^ 64 in
    let hs : s < 2 ^ 64 = omega arith in
    let ex : bit_xor ((rotr 8 (rotl 8 s) + n) % 2 ^ 64) k ≡ p.x =
    ap (λ (a : ℕ). bit_xor ((a + n) % 2 ^ 64) k) (turned_on 8 56 refl s hs)
    ∙ ap (λ (a : ℕ). bit_xor a k) (plus_minus w n hw hn) ∙ xor_twice p.x k in
    let ey : bit_xor (rotl 3 n) p.x ≡ p.y = ap (λ (a : ℕ). bit_xor a p.x) (turned_on 61 3 refl z hz) ∙ xor_twice p.y p.x in
    ap (λ (m : ℕ). pair m (bit_xor (rotl 3 n) m)) ex ∙ ap (pair p.x) ey

module _ (ks : ℕ → ℕ) (low : (i : ℕ) → i < 34 → ks i < 2 ^ 64) (t : Turns) where
  pub rounds_fit : (n : ℕ) (p : Pair) → n ≤ 34 → Fit p → Fit (rounds ks n p)
  unfolding rounds
  rounds_fit zero p h f = f
  rounds_fit (suc n) p h f = t.fit (ks n) _ (low n (omega arith)) (rounds_fit n p (omega arith) f)

  pub rounds_back_fit : (n : ℕ) (p : Pair) → n ≤ 34 → Fit p → Fit (rounds_back ks n p)
  unfolding rounds_back
  rounds_back_fit zero p h f = f
  rounds_back_fit (suc n) p h f = rounds_back_fit n _ (omega arith) (t.back_fit (ks n) p (low n (omega arith)) f)

  pub all_undone : (n : ℕ) (p : Pair) → n ≤ 34 → Fit p → rounds_back ks n (rounds ks n p) ≡ p
  unfolding rounds rounds_back
  all_undone zero p h f = refl
  all_undone (suc n) p h f =
      ap (rounds_back ks n) (t.undone (ks n) (rounds ks n p) (low n (omega arith)) (rounds_fit n p (omega arith) f)) ∙ all_undone n p (omega arith) f

  pub all_redone : (n : ℕ) (p : Pair) → n ≤ 34 → Fit p → rounds ks n (rounds_back ks n p) ≡ p
  unfolding rounds rounds_back
  all_redone zero p h f = refl
  all_redone (suc n) p h f =
      ap (round (ks n)) (all_redone n (round_back (ks n) p) (omega arith) (t.back_fit (ks n) p (low n (omega arith)) f)) ∙ t.redone (ks n) p (low n (omega arith)) f
