use Rattle.std.proofs.Common.{◌≡◌, ◌+◌, length, take, drop}
use Rattle.std.specs.Map.{values_of}
use Rattle.std.specs.Vec.Iter.{into_iter_items, into_iter_len}
use Rattle.pres_plan.specs.Plans.{due, numbered}
use Rattle.pres_plan.proofs.plan.Plan.due.Given as goal

-- the rows that were gone over have their numbers, and the writes of the others are left
abbrev pub invariant-loop-row : goal.invariant-loop-row
invariant-loop-row l =
    (into_iter_items l.rest ≡ drop l.row-index (due l.tree l.fn.moment (values_of l.row-items)))
    × (into_iter_len l.rest + l.row-index ≡ length l.row-items)
    × (l.made.items ≡ numbered (values_of (take l.row-index l.row-items)) (due l.tree l.fn.moment (values_of l.row-items)))
