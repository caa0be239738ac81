-- The walk over a unit's blocks, step by step, for any map of blocks and in both directions.
use Rattle.std.proofs.Common.{true, false, refl, bit_xor, ◌≡◌, ℕ, suc, ◌+◌, ◌-◌, ◌*◌, ◌<◌, ◌≤◌, Bool, cond, eqb, List, [], ◌++◌, length, take, drop, sym, ap, ◌∙◌, subst, append_assoc, append-nil, arith, length-append, length-drop, length-take, take_all, ne_eqb}
use Rattle.std.proofs.lemmas.List.{take_at, drop_at, drop_all}
use Rattle.octets.specs.Little.{Bytes, le_number, le_bytes, xored}
use Rattle.octets.proofs.Lists.{rest_bytes, append_bytes}
use Rattle.octets.proofs.Numbers.{bytes_xor, bytes_number}
use Rattle.cipher.specs.Maps.{Maps}
use Rattle.xts.specs.Xts.{doubled, under, stolen, ending, walked, before_last, encipher, decipher, passed}

module _ (f : List ℕ → List ℕ) (back : Bool) where
  -- a unit that ends with a whole block, and one that ends with a tail
  pub walked_whole : (t : ℕ) (xs : List ℕ) → length xs ≡ 16 → walked f back t 0 xs ≡ under f t xs
  unfolding walked
  walked_whole t xs h = ap (λ (n : ℕ). cond (eqb n 16) (under f t xs) (ending f back t xs)) h

  pub walked_tail : (t : ℕ) (xs : List ℕ) → 16 < length xs → walked f back t 0 xs ≡ ending f back t xs
  unfolding walked
  walked_tail t xs h = rw (ne_eqb (length xs) 16 (λ e. omega arith))

  -- a unit of one block
  pub last_whole : (t : ℕ) (xs ys : List ℕ) → length xs ≡ 16 → ys ≡ under f t (take 16 xs) ++ drop 16 xs → ys ≡ walked f back t 0 xs
  last_whole t xs ys l e =
      let none : drop 16 xs ≡ [] = drop_all 16 xs (omega arith) in
      let all : take 16 xs ≡ xs = take_all 16 xs (omega arith) in
      rw (e, none, all, walked_whole t xs l) (append-nil (under f t xs))

  -- a turn of the loop: the rest of the unit is replaced from block j on, and the next tweak is made
  pub turn : (t t' more j : ℕ) (xs new end : List ℕ) → j < more → 16 * more + 16 ≤ length xs
      → (let rest : List ℕ = take (length xs - 16 * j) (drop (16 * j) xs) in
      let ys : List ℕ = take (16 * j) xs ++ (new ++ drop (length xs - 16 * j) (drop (16 * j) xs)) in
      length new ≡ length rest → new ≡ under f t (take 16 rest) ++ drop 16 rest → t' ≡ doubled t
      → take (16 * j) xs ++ walked f back t (more - j) (drop (16 * j) xs) ≡ end
      → take (16 * (j + 1)) ys ++ walked f back t' (more - (j + 1)) (drop (16 * (j + 1)) ys) ≡ end)
  unfolding walked
  turn t t' more j xs new end h lo ln en et e =
      let at = 16 * j in
      let size : length (drop at xs) ≡ length xs - at = length-drop at xs in
      let rest : take (length xs - at) (drop at xs) ≡ drop at xs = take_all (length xs - at) (drop at xs) (omega arith) in
      let none : drop (length xs - at) (drop at xs) ≡ [] = drop_all (length xs - at) (drop at xs) (omega arith) in
      let q = under f t (take 16 (drop at xs)) in
      let after = drop 16 (drop at xs) in
      let whole : new ≡ q ++ after = en ∙ ap (λ (zs : List ℕ). under f t (take 16 zs) ++ drop 16 zs) rest in
      let lr : length new ≡ length (drop at xs) = ln ∙ ap length rest in
      let lq : length q + length after ≡ length (drop at xs) = sym (length-append q after) ∙ ap length (sym whole) ∙ lr in
      let la : length after ≡ length (drop at xs) - 16 = length-drop 16 (drop at xs) in
      let front = take at xs ++ q in
      let lt : length (take at xs) ≡ at = length-take at xs ∙ omega arith in
      let lf : length front ≡ 16 * (j + 1) = length-append (take at xs) q ∙ omega arith in
      let less : more - j ≡ suc (more - (j + 1)) = omega arith in
      rw (none, append-nil new, whole, et, ← append_assoc (take at xs) q after, take_at front after (16 * (j + 1)) lf, drop_at front after (16 * (j + 1)) lf, append_assoc (take at xs) q)
      (ap (λ (i : ℕ). take at xs ++ walked f back t i (drop at xs)) (sym less) ∙ e)

-- The first bytes of a block, which are as many as the tail, change places with the tail: us is the end with the block
-- under the first tweak, and ws the same with the places changed.
pub tail_stolen : (f : List ℕ → List ℕ) (one other : ℕ) (xs us block rest swapped tail vs : List ℕ) → 16 ≤ length xs → length xs < 32
    → length us ≡ length xs → us ≡ under f one (take 16 xs) ++ drop 16 xs → block ≡ take 16 us → rest ≡ drop 16 us → swapped ≡ rest → tail ≡ take (length rest) block
    → (let ws : List ℕ = (swapped ++ drop (length rest) block) ++ tail in vs ≡ under f other (take 16 ws) ++ drop 16 ws)
    → vs ≡ stolen f one other xs
tail_stolen f one other xs us block rest swapped tail vs lo hi lu eu eb er es et ev =
    let q = under f one (take 16 xs) in
    let b : ℕ = length xs - 16 in
    let size : length (drop 16 xs) ≡ b = length-drop 16 xs in
    let lq : length q ≡ 16 = let sum = sym (length-append q (drop 16 xs)) ∙ ap length (sym eu) ∙ lu in omega arith in
    let eq : block ≡ q = eb ∙ ap (take 16) eu ∙ take_at q (drop 16 xs) 16 lq in
    let rq : rest ≡ drop 16 xs = er ∙ ap (drop 16) eu ∙ drop_at q (drop 16 xs) 16 lq in
    let p = drop 16 xs ++ drop b q in
    let lp : length p ≡ 16 = length-append (drop 16 xs) (drop b q) ∙ (let dq = length-drop b q in omega arith) in
    rw (ev, et, es, rq, size, eq, take_at p (take b q) 16 lp, drop_at p (take b q) 16 lp) refl

-- a walk in one of the two ways, with the halves of a key apart
pub passed_is : (forward back : Maps) (first second : List ℕ) (n : ℕ) (unit ys : List ℕ) → length first ≡ 32 → (b : Bool) (f : List ℕ → List ℕ) (t : ℕ)
    → f ≡ cond b back forward first → t ≡ le_number (forward second (le_bytes 16 n)) → ys ≡ walked f b t (before_last unit) unit
    → ys ≡ passed b forward back (first ++ second) n unit
unfolding encipher decipher
passed_is forward back first second n unit ys l false f t ef et ey = rw (take_at first second 32 l, drop_at first second 32 l, ← ef, ← et) ey
passed_is forward back first second n unit ys l true f t ef et ey = rw (take_at first second 32 l, drop_at first second 32 l, ← ef, ← et) ey

-- a block, as a number, under a tweak
pub masked : (f : List ℕ → List ℕ) (n t x y : ℕ) (block : List ℕ) → Bytes n block → x ≡ le_number block → le_bytes n y ≡ f (le_bytes n (bit_xor x t))
    → le_bytes n (bit_xor y t) ≡ xored (f (xored block (le_bytes n t))) (le_bytes n t)
masked f n t x y block h ex ey = rw (bytes_xor n y t, ey, bytes_xor n x t, ex, bytes_number n block h) refl

-- a tail of a unit, filled up, is a block
pub filled_block : (xs q : List ℕ) → 16 ≤ length xs → length xs < 32 → Bytes (length xs) xs → Bytes 16 q → Bytes 16 (drop 16 xs ++ drop (length xs - 16) q)
filled_block xs q lo hi hx hq =
    let rest : ℕ = length xs - 16 in
    let whole : rest + (16 - rest) ≡ 16 = omega arith in
    subst (λ (n : ℕ). Bytes n (drop 16 xs ++ drop rest q)) whole
    (append_bytes rest (16 - rest) (drop 16 xs) (drop rest q) (rest_bytes 16 rest (length xs) xs (omega arith) hx) (rest_bytes rest (16 - rest) 16 q (omega arith) hq))
