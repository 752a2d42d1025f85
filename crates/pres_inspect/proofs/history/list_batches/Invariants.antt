use Rattle.std.proofs.Common.{take}
use Rattle.std.specs.Io.KnownBytes.{Appends}
use Rattle.pres_inspect.specs.Reports.{log_text}
use Rattle.pres_inspect.proofs.history.list_batches.Given as goal

-- the lines of the batches so far were printed
abbrev pub invariant-loop-batch : goal.invariant-loop-batch
invariant-loop-batch g l = Appends (g.W.Write.contents l.fn.output) (g.W.Write.contents l.output) (log_text l.from (take l.batch-index l.fn.batches))
