use Rattle.std.proofs.Common.{arith}
use Rattle.std.proofs.lemmas.Grind.{common_steps}
use Rattle.pres_client.proofs.client.Client.own_fault.Goals as goal

pub returns-in-Off-clause-ok : goal.returns-in-Off-clause-ok
returns-in-Off-clause-ok c = grind (arith, common_steps)

pub returns-in_ok-note-in-Opening-clause-ok : goal.returns-in_ok-note-in-Opening-clause-ok
returns-in_ok-note-in-Opening-clause-ok c = grind (arith, common_steps)
