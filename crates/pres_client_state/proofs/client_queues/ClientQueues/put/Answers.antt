use Rattle.std.proofs.Common.{arith}
use Rattle.std.proofs.lemmas.Grind.{common_steps}
use Rattle.pres_client_state.proofs.client_queues.ClientQueues.put.Goals as goal

pub returns-clause-sends : goal.returns-clause-sends
returns-clause-sends c = grind (arith, common_steps)

pub returns-clause-queue : goal.returns-clause-queue
returns-clause-queue c = grind (arith, common_steps)
