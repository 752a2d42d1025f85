use Rattle.std.proofs.Common.{◌≡◌, ◌+◌, ◌*◌, List, ◌++◌}
use Rattle.std.specs.List.Sorted.{IsStrictlySortedBy}
use Rattle.std.specs.Map.{keys_of}
use Rattle.pres_tree.specs.Keys.{Key, key_cmp}
use Rattle.pres_tree.specs.Rows.{Rows, height}
use Rattle.pres_tree.proofs.Nodes.{tallest}
use Rattle.pres_tree.proofs.Printing.{Printed, texts}
use Rattle.pres_tree.proofs.print.+print.Given as goal

abbrev pub decreases-to_value : goal.decreases-to_value
decreases-to_value g l = 2 * height l.tree.now + 1

abbrev pub decreases-printed : goal.decreases-printed
decreases-printed g l = 2 * tallest l.children.now.entries

abbrev pub invariant-printed-loop-key : goal.invariant-printed-loop-key
invariant-printed-loop-key g l =
    (done : List (Key × Rows g.row.L.Denot)) × (l.children.entries ≡ done ++ l.key-iterator)
    × Printed g.P.PrintedForm.printing g.P.LeafForm.reading done l.members.entries
    × IsStrictlySortedBy key_cmp (texts l.members.entries ++ keys_of l.key-iterator)
