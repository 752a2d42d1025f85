use Rattle.std.proofs.Common.{◌≡◌, ◌<◌, ◌^◌, take}
use Rattle.pres_batch_rows.specs.TableOpening.{greatest_in}
use Rattle.pres_batch_rows.proofs.last.greatest.Given as goal

abbrev pub invariant-loop-row : goal.invariant-loop-row
invariant-loop-row l = (l.greatest ≡ greatest_in (take l.row-index l.rows)) × (l.greatest < 2 ^ 63)
