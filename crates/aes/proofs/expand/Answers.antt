use Rattle.std.proofs.Common.{◌≡◌, ℕ, ◌-◌, ◌<◌, ◌≤◌, length, take, refl, sym, ◌∙◌, subst, arith, length-set, take_all}
use Rattle.aes.specs.Aes.{expanded}
use Rattle.aes.specs.Parts.{expand_next}
use Rattle.aes.proofs.expand.Goals as goal

pub loop-n-init : goal.loop-n-init
unfolding expanded
loop-n-init c =
    let first : c.copy_from_slice.new.self ≡ expanded c.args.bytes.now 0 = c.copy_from_slice.ensures.after ∙ c.key_words.ensures in
    rw first (refl, refl)

pub loop-n-preserved : goal.loop-n-preserved
loop-n-preserved c =
    let v = c.loop-n.invariant in
    let h : c.loop-n.n < length c.loop-n.words = omega arith in
    let lo : 8 ≤ c.loop-n.n = omega arith in
    (length-set _ _ _ ∙ v.0, expand_next c.args.bytes.now c.loop-n.n c.loop-n.words c.changed_word.result lo h v.1 c.changed_word.ensures)

pub returns : goal.returns
returns c =
    let v = c.loop-n.invariant in
    let e : c.loop-n.n ≡ 60 = omega arith in
    let h : length c.loop-n.words ≤ 60 = omega arith in
    sym (take_all 60 c.loop-n.words h) ∙ subst (λ (n : ℕ). take n c.loop-n.words ≡ expanded c.args.bytes.now (n - 8)) e v.1
