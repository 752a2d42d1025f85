use Rattle.std.proofs.Common.{arith}
use Rattle.std.proofs.lemmas.Grind.{common_steps}
use Rattle.pres_client.proofs.client.Client.try_now.Goals as goal

pub returns-then-not-is_online : goal.returns-then-not-is_online
returns-then-not-is_online c = grind (arith, common_steps)

pub returns : goal.returns
returns c = grind (arith, common_steps)
