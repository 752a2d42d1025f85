use Rattle.std.proofs.Common.{arith}
use Rattle.std.proofs.lemmas.Grind.{common_steps}
use Rattle.pres_batch_json.proofs.read.read_entry.Goals as goal

pub returns-in-again : goal.returns-in-again
returns-in-again c = grind (arith, common_steps)

pub returns-in-cancelled : goal.returns-in-cancelled
returns-in-cancelled c = grind (arith, common_steps)

pub returns-in-op : goal.returns-in-op
returns-in-op c = grind (arith, common_steps)

pub returns-in-ended : goal.returns-in-ended
returns-in-ended c = grind (arith, common_steps)

pub returns-in-open : goal.returns-in-open
returns-in-open c = grind (arith, common_steps)

pub returns-in-on : goal.returns-in-on
returns-in-on c = grind (arith, common_steps)

pub returns-in-off : goal.returns-in-off
returns-in-off c = grind (arith, common_steps)

pub returns-in-left : goal.returns-in-left
returns-in-left c = grind (arith, common_steps)

pub returns-in-denied : goal.returns-in-denied
returns-in-denied c = grind (arith, common_steps)

pub returns-in_default : goal.returns-in_default
returns-in_default c = grind (arith, common_steps)
