use Rattle.std.proofs.Common.{◌≡◌, take}
use Rattle.pres_base.proofs.copies.copy_paths.Given as goal

abbrev pub invariant-loop-path : goal.invariant-loop-path
invariant-loop-path l = l.made.items ≡ take l.path-index l.paths
