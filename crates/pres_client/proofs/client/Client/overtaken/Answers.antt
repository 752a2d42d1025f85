use Rattle.std.proofs.Common.{arith}
use Rattle.std.proofs.lemmas.Grind.{common_steps}
use Rattle.pres_client.proofs.client.Client.overtaken.Goals as goal

pub returns-then-attempt-ge-MOST_TRIES-clause-ok : goal.returns-then-attempt-ge-MOST_TRIES-clause-ok
returns-then-attempt-ge-MOST_TRIES-clause-ok c = grind (arith, common_steps)

pub returns-clause-ok : goal.returns-clause-ok
returns-clause-ok c = grind (arith, common_steps)
