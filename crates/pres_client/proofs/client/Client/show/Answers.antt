use Rattle.std.proofs.Common.{arith}
use Rattle.std.proofs.lemmas.Grind.{common_steps}
use Rattle.pres_client.proofs.client.Client.show.Goals as goal

pub returns-then-is_none-clause-ok : goal.returns-then-is_none-clause-ok
returns-then-is_none-clause-ok c = grind (arith, common_steps)

pub returns-clause-ok : goal.returns-clause-ok
returns-clause-ok c = grind (arith, common_steps)

pub settle-requires-2-clause-taken : goal.settle-requires-2-clause-taken
settle-requires-2-clause-taken c = grind (arith, common_steps)
