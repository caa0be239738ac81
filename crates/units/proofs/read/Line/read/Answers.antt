-- What is wrong with the word of the key, and with what is expected.
use Rattle.std.proofs.Common.{ℕ, ◌+◌, sym, ◌∙◌, subst}
use Rattle.units.specs.declared.fault.Expected.TheVariants.{Key}
use Rattle.units.specs.Lines.{Says, Wrong, Unexpected}
use Rattle.units.specs.Words.{InHex}
use Rattle.units.proofs.Wrongs.{exit, by_missed, unhexed, wrong_end}
use Rattle.units.proofs.read.Line.read.Goals as goal

pub returns-in_err-key : goal.returns-in_err-key
returns-in_err-key c =
    let ws = c.args.words.now in
    let e = c.in_err-key.field-0.0 in
    let word = c.at-3.result.now in
    exit (Says ws) (Wrong ws) c.from_residual-in_err-key.result e c.from_residual-in_err-key.ensures.1
    (by_missed (Wrong ws) Key (InHex word) e tt (unhexed word ws 2 c.at-3.ensures) c.in_err-key.ensures)

pub returns-in_err-expected : goal.returns-in_err-expected
returns-in_err-expected c =
    let ws = c.args.words.now in
    let e = c.in_err-expected.field-0.0 in
    exit (Says ws) (Wrong ws) c.from_residual-in_err-expected.result e c.from_residual-in_err-expected.ensures.1
    (wrong_end ws c.in_ok-command.command e (sym c.at.ensures ∙ c.in_ok-command.ensures.value)
    (subst (λ (place : ℕ). Unexpected ws (place + 1) e) c.input_place-place.ensures c.in_err-expected.ensures))
