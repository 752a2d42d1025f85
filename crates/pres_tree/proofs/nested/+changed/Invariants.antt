use Rattle.std.proofs.Common.{◌≡◌, List, ◌++◌, ◌+◌, ◌*◌}
use Rattle.std.specs.BTreeMap.{IsOrdered}
use Rattle.pres_tree.specs.Keys.{Key, key_cmp}
use Rattle.pres_tree.specs.Rows.{Rows, height, children_with}
use Rattle.pres_tree.proofs.Nodes.{tallest}
use Rattle.pres_tree.proofs.nested.+changed.Given as goal

abbrev pub decreases-Nested::changed : goal.decreases-Nested::changed
decreases-Nested::changed g l = 2 * height l.self.now + 1

abbrev pub decreases-changed_children : goal.decreases-changed_children
decreases-changed_children g l = 2 * tallest l.children.now.entries

abbrev pub invariant-changed_children-loop-key : goal.invariant-changed_children-loop-key
invariant-changed_children-loop-key g l =
    (done : List (Key × Rows g.row.L.Denot)) × (l.children.entries ≡ done ++ l.key-iterator)
    × (l.changed.entries ≡ children_with (g.C.Change.makes l.how) done) × IsOrdered key_cmp l.changed
