use Rattle.std.proofs.Common.{◌≡◌, ◌+◌, ◌++◌, drop}
use Rattle.pres_inspect.specs.Reports.{lines_text}
use Rattle.pres_inspect.proofs.history.batch_lines.Given as goal

-- the lines so far, and those of the entries that are left, are those of the batch
abbrev pub invariant-loop-entry : goal.invariant-loop-entry
invariant-loop-entry l = record {
  lines : l.lines.items ++ lines_text l.from l.number l.moment (drop l.entry-index l.entries) ≡ lines_text l.from l.fn.batch.first l.moment l.entries;
  number : l.number ≡ l.fn.batch.first + l.entry-index;
}
