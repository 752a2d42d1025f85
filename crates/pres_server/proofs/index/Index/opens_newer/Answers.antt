use Rattle.std.proofs.Common.{arith}
use Rattle.std.proofs.lemmas.Grind.{common_steps}
use Rattle.pres_server.proofs.index.Index.opens_newer.Goals as goal

pub returns-else-is_newer : goal.returns-else-is_newer
returns-else-is_newer c = grind (arith, common_steps)

pub returns-then-is_newer : goal.returns-then-is_newer
returns-then-is_newer c = grind (arith, common_steps)

pub returns-in_default : goal.returns-in_default
returns-in_default c = grind (arith, common_steps)
