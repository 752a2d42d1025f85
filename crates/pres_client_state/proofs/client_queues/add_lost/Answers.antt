use Rattle.std.proofs.Common.{arith}
use Rattle.std.proofs.lemmas.Grind.{common_steps}
use Rattle.pres_client_state.proofs.client_queues.add_lost.Goals as goal

pub loop-queued-preserved-in-Continue-1 : goal.loop-queued-preserved-in-Continue-1
loop-queued-preserved-in-Continue-1 c = grind (arith, common_steps)

pub returns : goal.returns
returns c = grind (arith, common_steps)
