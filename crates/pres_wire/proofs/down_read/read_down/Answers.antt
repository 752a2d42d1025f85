use Rattle.std.proofs.Common.{arith}
use Rattle.std.proofs.lemmas.Grind.{common_steps}
use Rattle.pres_wire.proofs.down_read.read_down.Goals as goal

pub returns-in-armed : goal.returns-in-armed
returns-in-armed c = grind (arith, common_steps)

pub returns-in-reply : goal.returns-in-reply
returns-in-reply c = grind (arith, common_steps)

pub returns-in-denied : goal.returns-in-denied
returns-in-denied c = grind (arith, common_steps)

pub returns-in-push : goal.returns-in-push
returns-in-push c = grind (arith, common_steps)

pub returns-in-snap : goal.returns-in-snap
returns-in-snap c = grind (arith, common_steps)

pub returns-in-welcome : goal.returns-in-welcome
returns-in-welcome c = grind (arith, common_steps)

pub returns-in-fault : goal.returns-in-fault
returns-in-fault c = grind (arith, common_steps)

pub returns-in-gone : goal.returns-in-gone
returns-in-gone c = grind (arith, common_steps)

pub returns-in-offdone : goal.returns-in-offdone
returns-in-offdone c = grind (arith, common_steps)
