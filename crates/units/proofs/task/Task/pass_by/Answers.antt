-- The output holds the input, so it is as long.
use Rattle.std.proofs.Common.{ℕ, List, vec_items, subst}
use Rattle.xts.specs.Calls.{call_demands, Makes}
use Rattle.units.specs.Runs.{unit_map}
use Rattle.units.proofs.task.Task.pass_by.Goals as goal

pub returns-in-Unit : goal.returns-in-Unit
returns-in-Unit g c =
    let key = vec_items c.args.self.now.key in
    let input = vec_items c.args.self.now.input in
    simp c.in-Unit.is (subst (λ (output : List ℕ). Makes (call_demands key input output) (unit_map g.C.Cipher.forward g.C.Cipher.back c.args.self.now.direction key c.in-Unit.number input) c.args.output.now c.pass_unit.result c.pass_unit.new.output) c.requires c.pass_unit.ensures)
