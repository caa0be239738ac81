use Rattle.std.proofs.Common.{◌≡◌, ◌-◌, ◌/◌, ◌%◌, ◌<◌, false, eqb, ap, ◌∙◌, ap₂, zero-add, arith, rules, ne_eqb}
use lib.Bits.{bit_xor}
use Rattle.std.proofs.lemmas.List.FromFn.{get_or-map-range_with_len}
use Rattle.aes_tables.specs.Columns.{sub_word}
use Rattle.aes.specs.Aes.{changed, constant}
use Rattle.aes.specs.Parts.{is_turned}
use Rattle.aes.proofs.changed_word.Goals as goal

pub returns-then-i-eq0 : goal.returns-then-i-eq0
unfolding changed
returns-then-i-eq0 c =
    let i = c.args.i in
    let h : i / 8 - 1 < 7 = omega arith in
    let e : i % 8 ≡ 0 = c.if-i-eq0.true in
    rw e (ap₂ bit_xor (c.sub_word.ensures ∙ ap sub_word (c.rotate_right.ensures ∙ is_turned c.args.w (search rules)))
    (get_or-map-range_with_len constant 0 7 (i / 8 - 1) (i / 8 - 1) 0 h (zero-add (i / 8 - 1))))

pub returns-then-i-eq4 : goal.returns-then-i-eq4
unfolding changed
returns-then-i-eq4 c =
    let e : c.args.i % 8 ≡ 4 = c.if-i-eq4.true in
    rw e c.sub_word-then-i-eq4.ensures

pub returns-else-i-eq4 : goal.returns-else-i-eq4
unfolding changed
returns-else-i-eq4 c =
    let a : eqb (c.args.i % 8) 0 ≡ false = ne_eqb (c.args.i % 8) 0 c.if-i-eq0.false in
    let b : eqb (c.args.i % 8) 4 ≡ false = ne_eqb (c.args.i % 8) 4 c.if-i-eq4.false in
    rw (a, b)
