use Rattle.std.proofs.Common.{◌≡◌, ◌++◌, length, vec_capacity}
use Rattle.pres_tree.proofs.children.spill.Given as goal

abbrev pub invariant-entries : goal.invariant-entries
invariant-entries g l =
    (l.few.items ++ l.many.entries ≡ l.initial.few.items ++ l.initial.many.entries) × (vec_capacity l.few ≡ vec_capacity l.initial.few)

abbrev pub decreases-entries : goal.decreases-entries
decreases-entries g l = length l.few.items
