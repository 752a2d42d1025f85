use Rattle.std.proofs.Common.{arith}
use Rattle.std.proofs.lemmas.Grind.{common_steps}
use Rattle.pres_batch_json.proofs.body.read_value.Goals as goal

pub returns-in_default : goal.returns-in_default
returns-in_default c = grind (arith, common_steps)

pub returns-then-may_hold : goal.returns-then-may_hold
returns-then-may_hold c = grind (arith, common_steps)

pub returns-else-may_hold : goal.returns-else-may_hold
returns-else-may_hold c = grind (arith, common_steps)
