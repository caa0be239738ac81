-- The words of a line, one by one and by their places.
use Rattle.std.proofs.Common.{◌≡◌, ℕ, zero, suc, ◌<◌, Bool, true, false, true≢false, List, [], ◌∷◌, ◌++◌, length, get_or, Option, Some, None, inl, inr, sym, refl, ap, ◌∙◌, subst, arith, Bor}
use Rattle.std.specs.Char.{is_whitespace, is_not_whitespace}
use Rattle.std.specs.Str.{NoCharPasses, EmptyOrStartsWithPassing}
use Rattle.std.specs.Slice.{IsItemAt}
use Rattle.std.specs.Option.{unwrap_or, option_copied, is_some, MatchOption}
use Rattle.std.specs.Bool.{MatchBool}
use Rattle.std.specs.Fn.{CalledAt}
use Rattle.std.specs.Iterator.{Yields}
use Rattle.std.specs.Iterator.Adapters.{take_while_source, take_while_done, take_while_callee, take_while_steps}
use Rattle.std.specs.Str.Iter.{split_whitespace_rest, split_whitespace_steps}
use Rattle.std.specs.declared.iter.TakeWhile.{TakeWhile}
use Rattle.std.specs.declared.str.SplitWhitespace.{SplitWhitespace}
use denote.Param.Members.{Mut}
use Rattle.words.specs.Words.{word_at, First, Comment, Split}

word_is : (ws : List (Bor (List ℕ))) (i : ℕ) (d : Bor (List ℕ)) → d.now ≡ [] → (get_or ws i d).now ≡ word_at ws i
word_is [] i d e = e
word_is (w ∷ ws) zero d e = refl
word_is (w ∷ ws) (suc i) d e = word_is ws i d e

-- what `get` finds at a place, or else an empty text, is the word there
pub word_got : (ws : List (Bor (List ℕ))) (i : ℕ) (r : Option (Bor (Bor (List ℕ)))) (o : Option (Bor (List ℕ))) (d w : Bor (List ℕ)) → IsItemAt ws i r → o ≡ option_copied r → d.now ≡ [] → w ≡ unwrap_or o d → w.now ≡ word_at ws i
word_got ws i r o d w h e f g = ap (λ (x : Bor (List ℕ)). x.now) (g ∙ ap (λ (p : Option (Bor (List ℕ))). unwrap_or p d) e ∙ h.4 (omega arith) d) ∙ word_is ws i d f

-- what `split_whitespace` says of an item
pub first_of : (bs w rest : List ℕ)
    → (gap : List ℕ) × (bs ≡ gap ++ (w ++ rest)) × (0 < length w) × NoCharPasses is_not_whitespace gap × NoCharPasses is_whitespace w × ((more : List ℕ) × EmptyOrStartsWithPassing is_whitespace rest more) → First bs w rest
first_of bs w rest cut = record { gap = cut.0; cut = cut.1; some = cut.2; blank = cut.3; solid = cut.4; ends = cut.5 }

-- a test that tells a word from a comment, and stays as it is
abbrev pub Tells : {F : Type 0} → Mut F (Bor (Bor (List ℕ)) × Unit {0}) Bool → F → Type 0
Tells {F} g f = (x : Bor (List ℕ)) (b : Bool) (q : F) → CalledAt g f x b q → (q ≡ f) × MatchBool b (Comment x.now → ⊥) (Comment x.now)

module _ {F : Type 0} (g : Mut F (Bor (Bor (List ℕ)) × Unit {0}) Bool) (f : F) (tells : Tells g f) where
  abbrev Words : Type 0
  Words = TakeWhile SplitWhitespace F

  abbrev left : Words → List ℕ
  left s = split_whitespace_rest (take_while_source s)

  -- a call before the end
  abbrev Turn : Words → Option (Bor (List ℕ)) → Words → Type 0
  Turn s r t = (o : Option (Bor (List ℕ))) × split_whitespace_steps (take_while_source s) o (take_while_source t)
      × MatchOption o ((r ≡ None) × (take_while_done t ≡ false))
      (λ x. (b : Bool) × CalledAt g (take_while_callee s) x b (take_while_callee t)
      × MatchBool b ((r ≡ Some x) × (take_while_done t ≡ false)) ((r ≡ None) × (take_while_done t ≡ true)))

  turn : (s t : Words) (r : Option (Bor (List ℕ))) → take_while_done s ≡ false → take_while_steps split_whitespace_steps g s r t → Turn s r t
  turn s t r d p = subst (λ b. MatchBool b ((r ≡ None) × (t ≡ s)) (Turn s r t)) d p

  told : (s t : Words) (x : Bor (List ℕ)) (b : Bool) → take_while_callee s ≡ f → CalledAt g (take_while_callee s) x b (take_while_callee t)
      → (take_while_callee t ≡ f) × MatchBool b (Comment x.now → ⊥) (Comment x.now)
  told s t x b e c = tells x b _ (subst (λ w. CalledAt g w x b (take_while_callee t)) e c)

  -- none came: the line ends, or a comment begins
  ended : (s t : Words) → take_while_callee s ≡ f → Turn s None t → Split (left s) []
  ended s t e (None, step, h) = inl step.1
  ended s t e (Some x, step, (true, c, h)) = absurd (true≢false (sym (ap is_some h.0)))
  ended s t e (Some x, step, (false, c, h)) = inr (x.now, left t, first_of (left s) x.now (left t) step, (told s t x false e c).1)

  -- a word came
  came : (s t : Words) (w : Bor (List ℕ)) → take_while_callee s ≡ f → Turn s (Some w) t
      → First (left s) w.now (left t) × (Comment w.now → ⊥) × (take_while_callee t ≡ f) × (take_while_done t ≡ false)
  came s t w e (None, step, h) = absurd (true≢false (ap is_some h.0))
  came s t w e (Some x, step, (false, c, h)) = absurd (true≢false (ap is_some h.0))
  came s t w e (Some x, step, (true, c, h)) =
      let same : x ≡ w = ap (λ (o : Option (Bor (List ℕ))). unwrap_or o w) (sym h.0) in
      let q = told s t x true e c in (
        subst (λ (y : Bor (List ℕ)). First (left s) y.now (left t)) same (first_of (left s) x.now (left t) step),
        subst (λ (y : Bor (List ℕ)). Comment y.now → ⊥) same q.1,
        q.0,
        h.1,
      )

  -- the words that come, up to the end, are those of the line
  pub split_is : (ws : List (Bor (List ℕ))) (s t u : Words) → take_while_callee s ≡ f → take_while_done s ≡ false
      → Yields (take_while_steps split_whitespace_steps g) s ws t → take_while_steps split_whitespace_steps g t None u → Split (left s) ws
  split_is [] s t u e d y n = ended s u e (turn s u None d (subst (λ (v : Words). take_while_steps split_whitespace_steps g v None u) (sym y) n))
  split_is (w ∷ ws) s t u e d (v, step, y) n =
      let c = came s v w e (turn s v (Some w) d step) in
      (left v, c.0, c.1, split_is ws v t u c.2 c.3 y n)
