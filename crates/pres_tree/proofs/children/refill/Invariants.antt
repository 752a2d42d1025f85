use Rattle.std.proofs.Common.{◌≡◌, ◌++◌, vec_capacity}
use Rattle.pres_tree.proofs.children.refill.Given as goal

abbrev pub invariant-loop-entry : goal.invariant-loop-entry
invariant-loop-entry g l =
    (goal.iterator-loop-entry g).can_next l.entry-iterator × (goal.iterator-loop-entry g).is_finite l.entry-iterator
    × (l.few.items ++ l.entry-iterator ≡ l.fn.few.items ++ l.fn.many.entries) × (vec_capacity l.few ≡ vec_capacity l.fn.few)
