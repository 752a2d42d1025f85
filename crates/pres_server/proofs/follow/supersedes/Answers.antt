use Rattle.std.proofs.Common.{arith}
use Rattle.std.proofs.lemmas.Grind.{common_steps}
use Rattle.pres_server.proofs.follow.supersedes.Goals as goal

pub returns-in_default-opened : goal.returns-in_default-opened
returns-in_default-opened c = grind (arith, common_steps)

pub returns-else-eq : goal.returns-else-eq
returns-else-eq c = grind (arith, common_steps)

pub returns-in_default : goal.returns-in_default
returns-in_default c = grind (arith, common_steps)
