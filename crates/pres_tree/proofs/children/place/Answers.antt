use Rattle.std.proofs.Common.{arith}
use Rattle.std.proofs.lemmas.Grind.{common_steps}
use Rattle.pres_tree.proofs.children.place.Goals as goal

pub returns-in-Equal : goal.returns-in-Equal
returns-in-Equal g c = grind (arith, common_steps)

pub returns : goal.returns
returns g c = grind (arith, common_steps)

pub loop-entry-preserved : goal.loop-entry-preserved
loop-entry-preserved g c = grind (arith, common_steps)

pub returns-in-Less : goal.returns-in-Less
returns-in-Less g c = grind (arith, common_steps)
