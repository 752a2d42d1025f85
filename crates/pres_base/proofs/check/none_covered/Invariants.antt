-- the rows that are left decide
use Rattle.std.proofs.Common.{◌≡◌, length}
use Rattle.pres_base.specs.InternalRows.{none_covered}
use Rattle.pres_base.proofs.check.none_covered.Given as goal

abbrev pub invariant-loop-row : goal.invariant-loop-row
invariant-loop-row l = none_covered l.rest ≡ none_covered l.rows

abbrev pub decreases-loop-row : goal.decreases-loop-row
decreases-loop-row l = length l.rest
