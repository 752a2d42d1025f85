-- the listens so far, and those that are still to come, are those of the paths
use Rattle.std.proofs.Common.{◌≡◌, ◌++◌, map}
use Rattle.pres_client_state.specs.Watches.{on_of}
use Rattle.pres_client_state.proofs.watch.Watches.listens.Given as goal

abbrev pub invariant-loop-path : goal.invariant-loop-path
invariant-loop-path l = l.listens.items ++ map on_of l.path-iterator ≡ map on_of l.self
