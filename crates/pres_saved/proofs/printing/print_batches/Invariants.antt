use Rattle.std.proofs.Common.{◌≡◌, map, take}
use Rattle.std.specs.List.{AllByRecursion}
use Rattle.pres_batch_rows.specs.RowContents.{saved_of}
use Rattle.pres_saved.specs.SqlKeepers.{saved_batch, IsReadBack}
use Rattle.pres_saved.proofs.printing.print_batches.Given as goal

-- the first ones are printed
abbrev pub invariant-loop-batch : goal.invariant-loop-batch
invariant-loop-batch l =
    (map saved_of l.rows.items ≡ map saved_batch (take l.batch-index l.batches)) × AllByRecursion IsReadBack (take l.batch-index l.batches)
