use Rattle.pres_ring.proofs.TreeTold.{taken_tells_the_tree}
use Rattle.pres_ring.proofs.laws.taken_tells_the_tree.Goals as goal

pub returns : goal.returns
returns c = taken_tells_the_tree
