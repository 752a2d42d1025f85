use Rattle.std.proofs.Common.{◌≡◌, List, ◌++◌, ◌+◌, ◌*◌, length}
use Rattle.std.specs.BTreeMap.{IsOrdered}
use Rattle.pres_tree.specs.Keys.{Key, key_cmp}
use Rattle.pres_tree.specs.Rows.{Rows, height, children_with}
use Rattle.pres_tree.proofs.Nodes.{tallest}
use Rattle.pres_tree.proofs.nested.+moved.Given as goal

abbrev pub decreases-moved : goal.decreases-moved
decreases-moved g l = 2 * height l.value + 1

abbrev pub decreases-moved_children : goal.decreases-moved_children
decreases-moved_children g l = 2 * tallest l.children.entries

-- the children that are left, and those that were moved
abbrev pub invariant-moved_children-children : goal.invariant-moved_children-children
invariant-moved_children-children g l =
    (done : List (Key × Rows g.row.L.Denot)) × (l.fn.children.entries ≡ l.children.entries ++ done)
    × (l.changed.entries ≡ children_with (g.C.Change.makes l.how) done) × IsOrdered key_cmp l.changed

abbrev pub decreases-moved_children-children : goal.decreases-moved_children-children
decreases-moved_children-children g l = length l.children.entries
