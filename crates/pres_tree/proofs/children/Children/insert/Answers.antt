use Rattle.std.proofs.Common.{arith}
use Rattle.std.proofs.lemmas.Grind.{common_steps}
use Rattle.pres_tree.proofs.children.Children.insert.Goals as goal

pub returns-clause-some : goal.returns-clause-some
returns-clause-some g c = grind (arith, common_steps)
