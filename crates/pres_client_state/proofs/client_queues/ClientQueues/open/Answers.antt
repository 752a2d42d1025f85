use Rattle.std.proofs.Common.{arith}
use Rattle.std.proofs.lemmas.Grind.{common_steps}
use Rattle.pres_client_state.proofs.client_queues.ClientQueues.open.Goals as goal

pub put_out-requires-clause-notices : goal.put_out-requires-clause-notices
put_out-requires-clause-notices c = grind (arith, common_steps)

pub returns-clause-queue : goal.returns-clause-queue
returns-clause-queue c = grind (arith, common_steps)

pub returns-clause-notices : goal.returns-clause-notices
returns-clause-notices c = grind (arith, common_steps)

pub all_messages-requires-clause-q : goal.all_messages-requires-clause-q
all_messages-requires-clause-q c = grind (arith, common_steps)

pub put_out-requires-clause-sends : goal.put_out-requires-clause-sends
put_out-requires-clause-sends c = grind (arith, common_steps)

pub returns-clause-sends : goal.returns-clause-sends
returns-clause-sends c = grind (arith, common_steps)

pub all_messages-requires-clause-n : goal.all_messages-requires-clause-n
all_messages-requires-clause-n c = grind (arith, common_steps)
