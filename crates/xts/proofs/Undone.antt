-- A unit that went through one map of blocks comes back through the map that undoes it, with the tweaks of its end in
-- the other order.
use Rattle.std.proofs.Common.{◌≡◌, ℕ, zero, suc, ◌+◌, ◌-◌, ◌*◌, ◌<◌, ◌≤◌, Bool, true, false, not, List, ◌++◌, length, take, drop, sym, ap, ◌∙◌, subst, ⊎_elim, eq-or-lt_of_le, arith, length-append, length-drop, take-append-drop, length-take}
use Rattle.std.proofs.lemmas.List.{take_at, drop_at}
use Rattle.octets.specs.Little.{Bytes, le_bytes, xored}
use Rattle.octets.proofs.Lists.{xored_twice, xored_bytes, part_bytes, rest_bytes, append_bytes}
use Rattle.octets.proofs.Numbers.{le_bytes_bytes, length_le_bytes}
use Rattle.xts.specs.Xts.{doubled, under, stolen, ending, walked}
use Rattle.xts.proofs.Steps.{walked_whole, walked_tail, filled_block}

-- all the bytes of a list
abbrev pub AllBytes : List ℕ → Type 0
AllBytes xs = Bytes (length xs) xs

-- f keeps blocks blocks, and g undoes it
pub record UndoneBy (f g : List ℕ → List ℕ) : Type 0 where
  pub kept : (x : List ℕ) → Bytes 16 x → Bytes 16 (f x)
  pub undone : (x : List ℕ) → Bytes 16 x → g (f x) ≡ x

module _ (f g : List ℕ → List ℕ) (law : UndoneBy f g) where
  pub under_block : (t : ℕ) (x : List ℕ) → Bytes 16 x → Bytes 16 (under f t x)
  under_block t x h =
      let m = le_bytes_bytes 16 t in
      xored_bytes 16 _ _ (law.kept _ (xored_bytes 16 _ _ h m)) m

  under_undone : (t : ℕ) (x : List ℕ) → Bytes 16 x → under g t (under f t x) ≡ x
  under_undone t x h =
      let mask = le_bytes 16 t in
      let masked = xored_bytes 16 _ _ h (le_bytes_bytes 16 t) in
      let k = law.kept _ masked in
      ap (λ (y : List ℕ). xored (g y) mask) (xored_twice (f (xored x mask)) mask (k.0 ∙ sym (length_le_bytes 16 t)))
      ∙ ap (λ (y : List ℕ). xored y mask) (law.undone _ masked) ∙ xored_twice x mask (h.0 ∙ sym (length_le_bytes 16 t))

  pub front : (xs : List ℕ) → 16 ≤ length xs → AllBytes xs → Bytes 16 (take 16 xs)
  front xs lo a = part_bytes 0 16 (length xs) xs (omega arith) a

  stolen_bytes : (one other : ℕ) (xs : List ℕ) → 16 ≤ length xs → length xs < 32 → AllBytes xs → Bytes (length xs) (stolen f one other xs)
  stolen_bytes one other xs lo hi a =
      let b : ℕ = length xs - 16 in
      let hq = under_block one (take 16 xs) (front xs lo a) in
      let q = under f one (take 16 xs) in
      let c = under_block other _ (filled_block xs q lo hi a hq) in
      let whole : 16 + b ≡ length xs = omega arith in
      subst (λ (n : ℕ). Bytes n (stolen f one other xs)) whole (append_bytes 16 b _ (take b q) c (part_bytes 0 b 16 q (omega arith) hq))

  stolen_undone : (one other : ℕ) (xs : List ℕ) → 16 ≤ length xs → length xs < 32 → AllBytes xs → stolen g other one (stolen f one other xs) ≡ xs
  stolen_undone one other xs lo hi a =
      let b : ℕ = length xs - 16 in
      let q : List ℕ = under f one (take 16 xs) in
      let hq = under_block one (take 16 xs) (front xs lo a) in
      let p : List ℕ = drop 16 xs ++ drop b q in
      let hp = filled_block xs q lo hi a hq in
      let c : List ℕ = under f other p in
      let lc = (under_block other p hp).0 in
      let lq = hq.0 in
      let ol : length (c ++ take b q) - 16 ≡ b = simp (length-append, length-take) (omega arith) in
      let ef : take 16 (c ++ take b q) ≡ c = take_at c (take b q) 16 lc in
      let eb : drop 16 (c ++ take b q) ≡ take b q = drop_at c (take b q) 16 lc in
      let dl : length (drop 16 xs) ≡ b = simp length-drop (omega arith) in
      rw (ol, ef, eb, under_undone other p hp)
      (rw (take_at (drop 16 xs) (drop b q) b dl, drop_at (drop 16 xs) (drop b q) b dl, take-append-drop b q, under_undone one (take 16 xs) (front xs lo a)) (take-append-drop 16 xs))

  ending_bytes : (back : Bool) (t : ℕ) (xs : List ℕ) → 16 ≤ length xs → length xs < 32 → AllBytes xs → Bytes (length xs) (ending f back t xs)
  ending_bytes false t xs lo hi a = stolen_bytes t (doubled t) xs lo hi a
  ending_bytes true t xs lo hi a = stolen_bytes (doubled t) t xs lo hi a

  ending_undone : (back : Bool) (t : ℕ) (xs : List ℕ) → 16 ≤ length xs → length xs < 32 → AllBytes xs → ending g (not back) t (ending f back t xs) ≡ xs
  ending_undone false t xs lo hi a = stolen_undone t (doubled t) xs lo hi a
  ending_undone true t xs lo hi a = stolen_undone (doubled t) t xs lo hi a

  module _ (back : Bool) where
    last_bytes : (t : ℕ) (xs : List ℕ) → 16 ≤ length xs → length xs < 32 → AllBytes xs → Bytes (length xs) (walked f back t 0 xs)
    last_bytes t xs lo hi a =
        ⊎_elim
        (λ (e : 16 ≡ length xs). subst (λ (ys : List ℕ). Bytes (length xs) ys) (sym (walked_whole f back t xs (sym e)))
        (subst (λ (n : ℕ). Bytes n (under f t xs)) e (under_block t xs (subst (λ (n : ℕ). Bytes n xs) (sym e) a))))
        (λ (h : 16 < length xs). subst (λ (ys : List ℕ). Bytes (length xs) ys) (sym (walked_tail f back t xs h)) (ending_bytes back t xs lo hi a))
        (eq-or-lt_of_le lo)

    last_undone : (t : ℕ) (xs : List ℕ) → 16 ≤ length xs → length xs < 32 → AllBytes xs → walked g (not back) t 0 (walked f back t 0 xs) ≡ xs
    last_undone t xs lo hi a =
        ⊎_elim
        (λ (e : 16 ≡ length xs).
        let x : Bytes 16 xs = subst (λ (n : ℕ). Bytes n xs) (sym e) a in
        ap (walked g (not back) t 0) (walked_whole f back t xs (sym e)) ∙ walked_whole g (not back) t (under f t xs) (under_block t xs x).0 ∙ under_undone t xs x)
        (λ (h : 16 < length xs).
        let l : 16 < length (ending f back t xs) = subst (λ (n : ℕ). 16 < n) (sym (ending_bytes back t xs lo hi a).0) h in
        ap (walked g (not back) t 0) (walked_tail f back t xs h) ∙ walked_tail g (not back) t (ending f back t xs) l ∙ ending_undone back t xs lo hi a)
        (eq-or-lt_of_le lo)

    -- the rest of a unit after its first block
    pub rest_of : (n : ℕ) (xs : List ℕ) → suc n * 16 + 16 ≤ length xs → AllBytes xs → AllBytes (drop 16 xs)
    rest_of n xs lo a =
        let l : 16 + length (drop 16 xs) ≡ length xs = simp length-drop (omega arith) in
        rest_bytes 16 (length (drop 16 xs)) (length xs) xs l a

    pub walked_bytes : (t n : ℕ) (xs : List ℕ) → n * 16 + 16 ≤ length xs → length xs < n * 16 + 32 → AllBytes xs → Bytes (length xs) (walked f back t n xs)
    unfolding walked
    walked_bytes t zero xs lo hi a = last_bytes t xs (omega arith) (omega arith) a
    walked_bytes t (suc n) xs lo hi a =
        let lo' : n * 16 + 16 ≤ length (drop 16 xs) = simp length-drop (omega arith) in
        let hi' : length (drop 16 xs) < n * 16 + 32 = simp length-drop (omega arith) in
        let whole : 16 + length (drop 16 xs) ≡ length xs = simp length-drop (omega arith) in
        subst (λ (m : ℕ). Bytes m (under f t (take 16 xs) ++ walked f back (doubled t) n (drop 16 xs))) whole
        (append_bytes 16 (length (drop 16 xs)) _ _ (under_block t (take 16 xs) (front xs (omega arith) a)) (walked_bytes (doubled t) n (drop 16 xs) lo' hi' (rest_of n xs lo a)))

    pub walked_undone : (t n : ℕ) (xs : List ℕ) → n * 16 + 16 ≤ length xs → length xs < n * 16 + 32 → AllBytes xs → walked g (not back) t n (walked f back t n xs) ≡ xs
    unfolding walked
    walked_undone t zero xs lo hi a = last_undone t xs (omega arith) (omega arith) a
    walked_undone t (suc n) xs lo hi a =
        let x = front xs (omega arith) a in
        let q = under f t (take 16 xs) in
        let l = (under_block t (take 16 xs) x).0 in
        let lo' : n * 16 + 16 ≤ length (drop 16 xs) = simp length-drop (omega arith) in
        let hi' : length (drop 16 xs) < n * 16 + 32 = simp length-drop (omega arith) in
        let more = walked_undone (doubled t) n (drop 16 xs) lo' hi' (rest_of n xs lo a) in
        let ys = walked f back (doubled t) n (drop 16 xs) in
        rw (take_at q ys 16 l, drop_at q ys 16 l, under_undone t (take 16 xs) x, more) (take-append-drop 16 xs)
