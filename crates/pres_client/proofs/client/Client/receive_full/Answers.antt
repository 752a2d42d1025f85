use Rattle.std.proofs.Common.{arith}
use Rattle.std.proofs.lemmas.Grind.{common_steps}
use Rattle.pres_client.proofs.client.Client.receive_full.Goals as goal

pub returns-clause-ok : goal.returns-clause-ok
returns-clause-ok c = grind (arith, common_steps)

pub settle-requires-clause-taken : goal.settle-requires-clause-taken
settle-requires-clause-taken c = grind (arith, common_steps)
