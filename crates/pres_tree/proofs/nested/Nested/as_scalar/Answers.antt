use Rattle.pres_tree.proofs.Nodes.{no_leaf}
use Rattle.pres_tree.proofs.nested.Nested.as_scalar.Goals as goal

pub returns-in_default : goal.returns-in_default
returns-in_default g c = no_leaf c.self.inside.node _ c.self.view_is c.in_default.not-Leaf
