use Rattle.std.proofs.Common.{sym}
use Rattle.pres_tree.proofs.Nodes.{node_not_null}
use Rattle.pres_tree.proofs.Values.{view_value}
use Rattle.pres_tree.proofs.nested.Nested.is_empty.Goals as goal

pub returns-in_default : goal.returns-in_default
returns-in_default g c = record {
  null = sym (node_not_null c.self.inside.node _ c.self.invariant c.self.view_is c.in_default.not-Empty);
  value = view_value c.self.inside.node _ c.self.invariant c.self.view_is;
}
