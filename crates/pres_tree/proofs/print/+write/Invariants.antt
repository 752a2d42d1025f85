use Rattle.std.proofs.Common.{◌≡◌, ◌+◌, ◌*◌, ◌≤◌, List, ◌++◌}
use Rattle.std.specs.List.Sorted.{IsStrictlySortedBy}
use Rattle.std.specs.Map.{keys_of}
use Rattle.pres_tree.specs.Keys.{Key, key_cmp}
use Rattle.pres_tree.specs.Rows.{Rows, height}
use Rattle.pres_tree.specs.JsonPrinting.{members_of, tokens_of_members}
use Rattle.pres_tree.proofs.Nodes.{tallest}
use Rattle.pres_tree.proofs.Printing.{AreWritten}
use Rattle.pres_tree.proofs.print.+write.Given as goal

abbrev pub decreases-write_value : goal.decreases-write_value
decreases-write_value g l = 2 * height l.tree.now + 1

abbrev pub decreases-write_members : goal.decreases-write_members
decreases-write_members g l = 2 * tallest l.children.now.entries

-- what is written and what is left make the whole
abbrev pub invariant-write_members-loop-key : goal.invariant-write_members-loop-key
invariant-write_members-loop-key g l =
    (tallest l.key-iterator ≤ tallest l.children.entries)
    × (l.out.tokens ++ tokens_of_members (members_of g.P.PrintedForm.printing l.key-iterator)
    ≡ l.fn.out.tokens ++ tokens_of_members (members_of g.P.PrintedForm.printing l.children.entries))
    × (l.out.before ≡ l.fn.out.before)
    × ((done : List (Key × Rows g.row.L.Denot)) × (l.children.entries ≡ done ++ l.key-iterator) × AreWritten g.P.PrintedForm.printing g.P.LeafForm.reading done)
    × IsStrictlySortedBy key_cmp (keys_of l.children.entries)
