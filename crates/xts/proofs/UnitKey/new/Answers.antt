use Rattle.std.proofs.Common.{◌≡◌, ℕ, ◌/◌, List, [], ◌++◌, length, take, drop, get_or, sym, refl, ap, ◌∙◌, ap₂, inl, inr, arith, length-drop, take-append-drop, take_all, rules}
use Rattle.std.specs.Simd.{first_chunks}
use Rattle.std.proofs.lemmas.Slice.Eq.{slice_eq-Decides}
use Rattle.std.proofs.lemmas.Bool.Decides.{Decides-eqb, not_from_Decides}
use Rattle.xts.proofs.UnitKey.new.Goals as goal

-- the two halves of a key, as its chunks
halves : (key : List ℕ) (chunks : List (List ℕ)) → length key ≡ 64 → chunks ≡ first_chunks 32 (length key / 32) key
    → (get_or chunks 0 [] ≡ take 32 key) × (get_or chunks 1 [] ≡ drop 32 key)
halves key chunks l e =
    let two : length key / 32 ≡ 2 = omega arith in
    let is = e ∙ ap (λ (n : ℕ). first_chunks 32 n key) two in
    (ap (λ (cs : List (List ℕ)). get_or cs 0 []) is, ap (λ (cs : List (List ℕ)). get_or cs 1 []) is ∙ take_all 32 (drop 32 key) (simp length-drop (omega arith)))

pub returns-then-eq : goal.returns-then-eq
returns-then-eq g c =
    let l : length c.args.key.now ≡ 64 = search rules in
    let h = halves c.args.key.now _ l c.as_chunks.ensures.front in
    let same = (slice_eq-Decides Decides-eqb _ _ c.eq.result c.eq.ensures).0 c.if-eq.true in
    inr (l, inl ((λ differ. differ (sym h.0 ∙ same ∙ h.1)), refl))

pub returns : goal.returns
returns g c =
    let l : length c.args.key.now ≡ 64 = search rules in
    let h = halves c.args.key.now _ l c.as_chunks.ensures.front in
    let differ = not_from_Decides c.eq.result (slice_eq-Decides Decides-eqb _ _ c.eq.result c.eq.ensures) c.if-eq.false in
    ((l, ((λ e. differ (h.0 ∙ e ∙ sym h.1)), tt)), ap₂ ◌++◌ (c.new.ensures ∙ h.0) (c.new-2.ensures ∙ h.1) ∙ take-append-drop 32 c.args.key.now)
