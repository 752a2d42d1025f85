-- the copies so far, and the paths that are left, are all of them
use Rattle.std.proofs.Common.{◌≡◌, ◌++◌}
use Rattle.pres_fan.proofs.paths.copy_set.Given as goal

abbrev pub invariant-loop-path : goal.invariant-loop-path
invariant-loop-path l = l.made.items ++ l.path-iterator ≡ l.paths.keys
