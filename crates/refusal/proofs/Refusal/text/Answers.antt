use Rattle.std.proofs.Common.{sym, ap}
use Rattle.refusal.specs.Texts.{text}
use Rattle.refusal.proofs.Refusal.text.Goals as goal

pub returns-in-WrongStage : goal.returns-in-WrongStage
returns-in-WrongStage c = sym (ap text c.in-WrongStage.is)

pub returns-in-PermitOut : goal.returns-in-PermitOut
returns-in-PermitOut c = sym (ap text c.in-PermitOut.is)
