-- A line whose words are wrong.
use Rattle.std.proofs.Common.{sym, subst, inr}
use Rattle.std.proofs.lemmas.Result.{err_from_is_err_and}
use Rattle.words.specs.Words.{Split}
use Rattle.units.proofs.reply_to.Goals as goal

pub returns-in_err-serve : goal.returns-in_err-serve
returns-in_err-serve c =
    let p = err_from_is_err_and c.from_residual-in_err-serve.result c.from_residual-in_err-serve.ensures.1 in
    let split = subst (Split c.args.line.now) (sym c.deref.ensures.value) c.in_ok-words.ensures in
    rw (p.1, p.2) (inr (c.deref.result.now, split, c.in_err-serve.ensures))
