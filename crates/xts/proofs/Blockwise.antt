-- Where each block of a unit comes from.
use Rattle.std.proofs.Common.{◌≡◌, ℕ, zero, suc, ◌+◌, ◌-◌, ◌*◌, ◌<◌, ◌≤◌, Bool, List, ◌++◌, length, take, drop, sym, refl, ap, ◌∙◌, subst, ap₂, arith, length-drop, take_all, drop-drop}
use Rattle.std.proofs.lemmas.List.{take_at, drop_at}
use Rattle.octets.specs.Little.{Bytes}
use Rattle.octets.proofs.Lists.{rest_bytes}
use Rattle.xts.specs.Xts.{doubled, under, stolen, ending, walked}
use Rattle.xts.specs.Theorems.{tweak, block, BlockByBlock}
use Rattle.xts.proofs.Steps.{walked_whole, walked_tail, filled_block}
use Rattle.xts.proofs.Undone.{AllBytes, UndoneBy, under_block, front, rest_of}

-- a doubling more, at the other end
tweak_on : (t j : ℕ) → tweak (doubled t) j ≡ tweak t (suc j)
tweak_on t zero = refl
tweak_on t (suc j) = ap doubled (tweak_on t j)

-- sixteen bytes more to pass over
drop_more : (j : ℕ) (xs : List ℕ) → drop (16 * suc j) xs ≡ drop (16 * j) (drop 16 xs)
drop_more j xs =
    let e : 16 * suc j ≡ 16 + 16 * j = omega arith in
    ap (λ (n : ℕ). drop n xs) e ∙ sym (drop-drop (16 * j) 16 xs)

module _ (f g : List ℕ → List ℕ) (law : UndoneBy f g) (back : Bool) where
  -- what follows the first block of a unit
  after_first : (t n j : ℕ) (xs : List ℕ) → suc n * 16 + 16 ≤ length xs → AllBytes xs → drop (16 * suc j) (walked f back t (suc n) xs) ≡ drop (16 * j) (walked f back (doubled t) n (drop 16 xs))
  unfolding walked
  after_first t n j xs lo a =
      let l = (under_block f g law t (take 16 xs) (front f g law xs (omega arith) a)).0 in
      drop_more j (walked f back t (suc n) xs) ∙ ap (drop (16 * j)) (drop_at (under f t (take 16 xs)) (walked f back (doubled t) n (drop 16 xs)) 16 l)

  -- a block before the last whole one
  pub block_through : (t n j : ℕ) (xs : List ℕ) → n * 16 + 16 ≤ length xs → AllBytes xs → j < n → block (walked f back t n xs) j ≡ under f (tweak t j) (block xs j)
  unfolding walked
  block_through t zero j xs lo a h = absurd (let z : ⊥ = omega arith in z)
  block_through t (suc n) zero xs lo a h =
      take_at (under f t (take 16 xs)) (walked f back (doubled t) n (drop 16 xs)) 16 (under_block f g law t (take 16 xs) (front f g law xs (omega arith) a)).0
  block_through t (suc n) (suc j) xs lo a h =
      let lo' : n * 16 + 16 ≤ length (drop 16 xs) = simp length-drop (omega arith) in
      ap (take 16) (after_first t n j xs lo a)
      ∙ block_through (doubled t) n j (drop 16 xs) lo' (rest_of f g law back n xs lo a) (omega arith)
      ∙ ap₂ (λ (u : ℕ) (ys : List ℕ). under f u (take 16 ys)) (tweak_on t j) (sym (drop_more j xs))

  -- the last whole block and what follows it
  pub end_through : (t n : ℕ) (xs : List ℕ) → n * 16 + 16 ≤ length xs → AllBytes xs → drop (16 * n) (walked f back t n xs) ≡ walked f back (tweak t n) 0 (drop (16 * n) xs)
  end_through t zero xs lo a = refl
  end_through t (suc n) xs lo a =
      let lo' : n * 16 + 16 ≤ length (drop 16 xs) = simp length-drop (omega arith) in
      after_first t n n xs lo a
      ∙ end_through (doubled t) n (drop 16 xs) lo' (rest_of f g law back n xs lo a)
      ∙ ap₂ (λ (u : ℕ) (ys : List ℕ). walked f back u 0 ys) (tweak_on t n) (sym (drop_more n xs))

  -- the two parts of a stolen end
  stolen_head : (o p : ℕ) (zs : List ℕ) → 16 ≤ length zs → length zs < 32 → AllBytes zs → take 16 (stolen f o p zs) ≡ under f p (drop 16 zs ++ drop (length zs - 16) (under f o (take 16 zs)))
  stolen_head o p zs lo hi a =
      let q = under_block f g law o (take 16 zs) (front f g law zs lo a) in
      take_at _ (take (length zs - 16) (under f o (take 16 zs))) 16 (under_block f g law p _ (filled_block zs (under f o (take 16 zs)) lo hi a q)).0

  stolen_tail : (o p : ℕ) (zs : List ℕ) → 16 ≤ length zs → length zs < 32 → AllBytes zs → drop 16 (stolen f o p zs) ≡ take (length zs - 16) (under f o (take 16 zs))
  stolen_tail o p zs lo hi a =
      let q = under_block f g law o (take 16 zs) (front f g law zs lo a) in
      drop_at _ (take (length zs - 16) (under f o (take 16 zs))) 16 (under_block f g law p _ (filled_block zs (under f o (take 16 zs)) lo hi a q)).0

  module _ (t m b one other : ℕ) (xs : List ℕ) (some : 1 ≤ m) (long : m * 16 + b ≡ length xs) (less : b < 16) (a : AllBytes xs)
      (ends : (zs : List ℕ) → ending f back (tweak t (m - 1)) zs ≡ stolen f (tweak t one) (tweak t other) zs) where
    abbrev end : List ℕ
    end = drop (16 * (m - 1)) xs

    end_long : length end ≡ 16 + b
    end_long = simp length-drop (omega arith)

    end_bytes : AllBytes end
    end_bytes = rest_bytes (16 * (m - 1)) (length end) (length xs) xs (simp length-drop (omega arith)) a

    ended : drop (16 * (m - 1)) (walked f back t (m - 1) xs) ≡ walked f back (tweak t (m - 1)) 0 end
    ended = end_through t (m - 1) xs (omega arith) a

    ended_tail : 0 < b → drop (16 * (m - 1)) (walked f back t (m - 1) xs) ≡ stolen f (tweak t one) (tweak t other) end
    ended_tail h = ended ∙ walked_tail f back (tweak t (m - 1)) end (subst (λ (n : ℕ). 16 < n) (sym end_long) (omega arith)) ∙ ends end

    lo : 16 ≤ length end
    lo = subst (λ (n : ℕ). 16 ≤ n) (sym end_long) (omega arith)

    hi : length end < 32
    hi = subst (λ (n : ℕ). n < 32) (sym end_long) (omega arith)

    size : length end - 16 ≡ b
    size = ap (λ (n : ℕ). n - 16) end_long ∙ omega arith

    past : (ys : List ℕ) → drop 16 (drop (16 * (m - 1)) ys) ≡ drop (16 * m) ys
    past ys =
        let e : 16 * (m - 1) + 16 ≡ 16 * m = omega arith in
        drop-drop 16 (16 * (m - 1)) ys ∙ ap (λ (n : ℕ). drop n ys) e

    pub blockwise : BlockByBlock f t m b one other xs (walked f back t (m - 1) xs)
    blockwise = record {
      whole = λ j h. block_through t (m - 1) j xs (omega arith) a (omega arith);
      even = λ e.
          let whole : length end ≡ 16 = end_long ∙ ap (λ (n : ℕ). 16 + n) e in
          let x : Bytes 16 end = subst (λ (n : ℕ). Bytes n end) whole end_bytes in
          ap (take 16) (ended ∙ walked_whole f back (tweak t (m - 1)) end whole)
          ∙ take_all 16 (under f (tweak t (m - 1)) end) (subst (λ (n : ℕ). n ≤ 16) (sym (under_block f g law (tweak t (m - 1)) end x).0) (omega arith))
          ∙ ap (under f (tweak t (m - 1))) (sym (take_all 16 end (subst (λ (n : ℕ). n ≤ 16) (sym whole) (omega arith))));
      tail = λ h.
          sym (past (walked f back t (m - 1) xs)) ∙ ap (drop 16) (ended_tail h) ∙ stolen_tail (tweak t one) (tweak t other) end lo hi end_bytes
          ∙ ap (λ (n : ℕ). take n (under f (tweak t one) (take 16 end))) size;
      head = λ h.
          ap (take 16) (ended_tail h) ∙ stolen_head (tweak t one) (tweak t other) end lo hi end_bytes
          ∙ ap₂ (λ (zs : List ℕ) (n : ℕ). under f (tweak t other) (zs ++ drop n (under f (tweak t one) (take 16 end)))) (past xs) size;
    }
