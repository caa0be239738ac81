-- Speck128/256: 34 rounds on two words of 64 bits.
use Rattle.std.specs.Prelude.{ℕ, zero, suc, ◌+◌, ◌-◌, ◌%◌, ◌^◌, List, ◌++◌, take, drop, bit_xor}
use Rattle.octets.specs.Little.{le_number, le_bytes}
use Rattle.speck.specs.Words.{rotr, rotl}

-- the two words of a block
pub record Pair : Type 0 where
  pub x : ℕ
  pub y : ℕ

abbrev pub pair : ℕ → ℕ → Pair
pair a b = record { x = a; y = b }

-- house rule: y is the first eight bytes of a block, x the last eight, both little-endian
abbrev pub pair_of : List ℕ → Pair
pair_of block = pair (le_number (take 8 (drop 8 block))) (le_number (take 8 block))

abbrev pub block_of : Pair → List ℕ
block_of p = le_bytes 8 p.y ++ le_bytes 8 p.x

-- the schedule's state at round i: k(i), l(i), l(i + 1) and l(i + 2)
pub record Keys : Type 0 where
  pub k : ℕ
  pub l0 : ℕ
  pub l1 : ℕ
  pub l2 : ℕ

abbrev pub keys : ℕ → ℕ → ℕ → ℕ → Keys
keys a b c d = record { k = a; l0 = b; l1 = c; l2 = d }

-- house rule: the bytes of a key are k(0), l(0), l(1) and l(2), eight each, little-endian
abbrev pub keys_first : List ℕ → Keys
keys_first key =
    keys (le_number (take 8 key)) (le_number (take 8 (drop 8 key))) (le_number (take 8 (drop 16 key))) (le_number (take 8 (drop 24 key)))

-- l(i + 3) is (k(i) plus l(i) rotated right by 8) xor i, and k(i + 1) is k(i) rotated left by 3, xor l(i + 3)
abbrev pub keys_next : ℕ → Keys → Keys
keys_next i s =
    let l3 : ℕ = bit_xor ((s.k + rotr 8 s.l0) % 2 ^ 64) i in
    keys (bit_xor (rotl 3 s.k) l3) s.l1 s.l2 l3

unfoldable pub keys_at : List ℕ → ℕ → Keys
keys_at key zero = keys_first key
keys_at key (suc i) = keys_next i (keys_at key i)

abbrev pub round_key : List ℕ → ℕ → ℕ
round_key key i = (keys_at key i).k

-- x becomes (x rotated right by 8, plus y) xor k, then y becomes y rotated left by 3, xor x
abbrev pub round : ℕ → Pair → Pair
round k p =
    let x' : ℕ = bit_xor ((rotr 8 p.x + p.y) % 2 ^ 64) k in
    pair x' (bit_xor (rotl 3 p.y) x')

-- the way back
abbrev pub round_back : ℕ → Pair → Pair
round_back k p =
    let y' : ℕ = rotr 3 (bit_xor p.y p.x) in
    pair (rotl 8 ((bit_xor p.x k + (2 ^ 64 - y')) % 2 ^ 64)) y'

-- the first n rounds, under the round keys ks
unfoldable pub rounds : (ℕ → ℕ) → ℕ → Pair → Pair
rounds ks zero p = p
rounds ks (suc n) p = round (ks n) (rounds ks n p)

-- the same n rounds, last first
unfoldable pub rounds_back : (ℕ → ℕ) → ℕ → Pair → Pair
rounds_back ks zero p = p
rounds_back ks (suc n) p = rounds_back ks n (round_back (ks n) p)

unfoldable pub speck : List ℕ → List ℕ → List ℕ
speck key block = block_of (rounds (round_key key) 34 (pair_of block))

unfoldable pub speck_back : List ℕ → List ℕ → List ℕ
speck_back key block = block_of (rounds_back (round_key key) 34 (pair_of block))
