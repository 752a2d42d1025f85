use Rattle.std.proofs.Common.{◌≡◌, take}
use Rattle.pres_base.proofs.copies.copy_rows.Given as goal

abbrev pub invariant-loop-row : goal.invariant-loop-row
invariant-loop-row l = l.made.items ≡ take l.row-index l.rows
