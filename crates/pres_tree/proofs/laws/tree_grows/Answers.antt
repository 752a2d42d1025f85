use Rattle.pres_tree.proofs.Last.{tree_grows}
use Rattle.pres_tree.proofs.laws.tree_grows.Goals as goal

pub returns : goal.returns
returns c = tree_grows
