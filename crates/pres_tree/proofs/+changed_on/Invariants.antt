use Rattle.std.proofs.Common.{◌≡◌, List, ◌++◌, ◌+◌, ◌*◌}
use Rattle.std.specs.BTreeMap.{IsOrdered}
use Rattle.pres_tree.specs.Keys.{Key, key_cmp}
use Rattle.pres_tree.specs.Rows.{Rows, height}
use Rattle.pres_tree.specs.LeavesOn.{children_on}
use Rattle.pres_tree.proofs.Nodes.{tallest}
use Rattle.pres_tree.proofs.+changed_on.Given as goal

abbrev pub decreases-nested::Nested::changed_on : goal.decreases-nested::Nested::changed_on
decreases-nested::Nested::changed_on g l = 3 * height l.self.now + 1

abbrev pub decreases-nested::Nested::changed_below : goal.decreases-nested::Nested::changed_below
decreases-nested::Nested::changed_below g l = 3 * height l.self.now + 2

abbrev pub decreases-change_on::changed_children : goal.decreases-change_on::changed_children
decreases-change_on::changed_children g l = 3 * tallest l.children.now.entries

abbrev pub invariant-change_on::changed_children-loop-key : goal.invariant-change_on::changed_children-loop-key
invariant-change_on::changed_children-loop-key g l =
    (done : List (Key × Rows g.row.L.Denot)) × (l.children.entries ≡ done ++ l.key-iterator)
    × (l.changed.entries ≡ children_on (g.C.ChangeOn.makes_on l.how) l.held done) × IsOrdered key_cmp l.changed
