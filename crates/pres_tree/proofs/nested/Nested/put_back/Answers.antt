use Rattle.std.proofs.Common.{arith}
use Rattle.std.proofs.lemmas.Grind.{common_steps}
use Rattle.pres_tree.proofs.nested.Nested.put_back.Goals as goal

pub returns-then-is_empty : goal.returns-then-is_empty
returns-then-is_empty g c = grind (arith, common_steps)

pub returns-else-is_empty : goal.returns-else-is_empty
returns-else-is_empty g c = grind (arith, common_steps)
