use Rattle.std.proofs.Common.{◌≡◌, ◌+◌, ◌*◌, max, List, ◌++◌}
use Rattle.pres_tree.specs.Keys.{Key}
use Rattle.pres_tree.specs.Rows.{Rows, height}
use Rattle.pres_tree.specs.Layer.{deepest_of}
use Rattle.pres_tree.proofs.Nodes.{tallest}
use Rattle.pres_tree.proofs.nested.+depth.Given as goal

abbrev pub decreases-Nested::depth : goal.decreases-Nested::depth
decreases-Nested::depth g l = 2 * height l.self.now + 1

abbrev pub decreases-deepest : goal.decreases-deepest
decreases-deepest g l = 2 * tallest l.children.now.entries

abbrev pub invariant-deepest-loop-child : goal.invariant-deepest-loop-child
invariant-deepest-loop-child g l =
    (done : List (Key × Rows g.row.L.Denot)) × (l.children.entries ≡ done ++ l.child-iterator) × (max l.deepest (deepest_of l.child-iterator) ≡ deepest_of l.children.entries)
