use Rattle.std.proofs.Common.{◌≡◌, take}
use Rattle.pres_log.proofs.entry.copy_entries.Given as goal

abbrev pub invariant-loop-entry : goal.invariant-loop-entry
invariant-loop-entry l = l.made.items ≡ take l.entry-index l.entries
