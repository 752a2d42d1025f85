use Rattle.std.proofs.Common.{◌≡◌, ◌++◌, length}
use Rattle.std.specs.BTreeMap.{IsOrdered}
use Rattle.pres_tree.specs.Paths.{path_cmp, sorted_by}
use Rattle.pres_write.specs.Updates.{Places}
use Rattle.pres_write.proofs.update.in_order.Given as goal

-- the drafts that were popped so far, in order
abbrev pub invariant-loop-place : goal.invariant-loop-place
invariant-loop-place l =
    (done : Places) × (l.fn.places.items ≡ l.places.items ++ done) × (l.drafts.entries ≡ sorted_by path_cmp done) × IsOrdered path_cmp l.drafts

abbrev pub decreases-loop-place : goal.decreases-loop-place
decreases-loop-place l = length l.places.items
