use Rattle.std.proofs.Common.{arith}
use Rattle.std.proofs.lemmas.Grind.{common_steps}
use Rattle.pres_write.proofs.op.read_form.Goals as goal

pub returns-in-remove : goal.returns-in-remove
returns-in-remove c = grind (arith, common_steps)

pub returns-in-update : goal.returns-in-update
returns-in-update c = grind (arith, common_steps)

pub returns-in-set : goal.returns-in-set
returns-in-set c = grind (arith, common_steps)

pub returns-in-tx : goal.returns-in-tx
returns-in-tx c = grind (arith, common_steps)
