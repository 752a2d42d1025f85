use Rattle.std.proofs.Common.{◌≡◌, List, ◌++◌, ◌+◌, ◌*◌}
use Rattle.pres_tree.specs.Keys.{Key}
use Rattle.pres_tree.specs.Rows.{Rows, height, children_with}
use Rattle.pres_tree.specs.LeavesOn.{children_on}
use Rattle.pres_tree.proofs.Nodes.{tallest}
use Rattle.pres_tree.proofs.+looks.Given as goal

abbrev pub decreases-nested::Nested::looks : goal.decreases-nested::Nested::looks
decreases-nested::Nested::looks g l = 2 * height l.self.now + 1

abbrev pub decreases-change_on::one_looks : goal.decreases-change_on::one_looks
decreases-change_on::one_looks g l = 2 * tallest l.children.now.entries

-- the children that were seen don't look
abbrev pub invariant-change_on::one_looks-loop-child : goal.invariant-change_on::one_looks-loop-child
invariant-change_on::one_looks-loop-child g l =
    (done : List (Key × Rows g.row.L.Denot)) × (l.children.entries ≡ done ++ l.child-iterator)
    × ((held : Rows g.row.M.Denot) → children_on (g.C.ChangeOn.makes_on l.how) held done ≡ children_with (g.C.Change.makes l.how) done)
