use Rattle.std.proofs.Common.{arith}
use Rattle.std.proofs.lemmas.Grind.{common_steps}
use Rattle.pres_client.proofs.client.Client.lost.Goals as goal

pub returns-clause-ok : goal.returns-clause-ok
returns-clause-ok c = grind (arith, common_steps)

pub returns-then-not-is_online-clause-ok : goal.returns-then-not-is_online-clause-ok
returns-then-not-is_online-clause-ok c = grind (arith, common_steps)
