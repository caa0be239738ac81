-- The text so far and what is still to encode make the whole text.
use Rattle.std.proofs.Common.{ℕ, ◌/◌, ◌%◌, ◌<◌, List, length, get_or, string_bytes, sym, subst, arith, rules}
use Rattle.std.proofs.ByRecursion.{All-from_get_or}
use Rattle.std.specs.Char.{digit_char}
use Rattle.hex_text.specs.Texts.{Spells}
use Rattle.hex_text.proofs.Pairs.{char_ascii, text_step, text_all, spelt}
use Rattle.hex_text.proofs.encode.Goals as goal

pub loop-b-preserved : goal.loop-b-preserved
loop-b-preserved c =
    let xs = c.args.bytes.now in
    let i = c.loop-b.b-index in
    let l : i < length xs = omega arith in
    let byte : get_or xs i 0 < 256 = omega (arith, c.type_inv.bytes i) in
    let a : digit_char (get_or xs i 0 / 16) < 128 = char_ascii (get_or xs i 0 / 16) (omega arith) in
    let b : digit_char (get_or xs i 0 % 16) < 128 = char_ascii (get_or xs i 0 % 16) (omega arith) in
    text_step xs (string_bytes c.loop-b.text) (string_bytes c.push.new.self) (string_bytes c.push-in-loop-b.new.self) i l c.loop-b.invariant
    (search rules) (search rules)

pub returns : goal.returns
returns c =
    let xs = c.args.bytes.now in
    let e = text_all xs (string_bytes c.loop-b.text) c.loop-b.b-index c.loop-b-test.false c.loop-b.invariant in
    record {
      text = e;
      back = subst (λ (t : List ℕ). Spells t xs) (sym e) (spelt xs (All-from_get_or (λ (b : ℕ). b < 256) xs 0 (λ i l. omega (arith, c.type_inv.bytes i))));
    }
