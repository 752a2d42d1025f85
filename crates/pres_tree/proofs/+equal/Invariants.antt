use Rattle.std.proofs.Common.{◌≡◌, ◌+◌, ◌*◌, ◌≤◌}
use Rattle.std.specs.Prelude.{◌↔◌}
use Rattle.pres_tree.specs.Rows.{height}
use Rattle.pres_tree.proofs.Nodes.{tallest}
use Rattle.pres_tree.proofs.+equal.Given as goal

abbrev pub decreases-nested::Nested::equal : goal.decreases-nested::Nested::equal
decreases-nested::Nested::equal g l = 2 * height l.self.now + 1

abbrev pub decreases-equal::equal_children : goal.decreases-equal::equal_children
decreases-equal::equal_children g l = 2 * tallest l.children.now.entries

-- what is left of both decides
abbrev pub invariant-equal::equal_children-loop-key : goal.invariant-equal::equal_children-loop-key
invariant-equal::equal_children-loop-key g l =
    ((l.children.entries ≡ l.others.entries) ↔ (l.key-iterator ≡ l.rest)) × (tallest l.key-iterator ≤ tallest l.children.entries)
