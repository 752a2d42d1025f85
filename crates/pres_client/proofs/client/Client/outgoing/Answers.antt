use Rattle.std.proofs.Common.{arith}
use Rattle.std.proofs.lemmas.Grind.{common_steps}
use Rattle.pres_client.proofs.client.Client.outgoing.Goals as goal

pub returns : goal.returns
returns c = grind (arith, common_steps)

pub returns-then-not-is_opening : goal.returns-then-not-is_opening
returns-then-not-is_opening c = grind (arith, common_steps)
