use Rattle.std.proofs.Common.{arith}
use Rattle.std.proofs.lemmas.Grind.{common_steps}
use Rattle.pres_server.proofs.index.Index.may_cancel.Goals as goal

pub returns-then-comes_next : goal.returns-then-comes_next
returns-then-comes_next c = grind (arith, common_steps)

pub returns-else-comes_next : goal.returns-else-comes_next
returns-else-comes_next c = grind (arith, common_steps)

pub returns-in_default : goal.returns-in_default
returns-in_default c = grind (arith, common_steps)
