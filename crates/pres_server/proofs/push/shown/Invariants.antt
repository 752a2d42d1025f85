use Rattle.std.proofs.Common.{◌≡◌, map}
use Rattle.pres_server.specs.Answering.{shown}
use Rattle.pres_server.proofs.push.shown.Given as goal

abbrev pub invariant-loop-path : goal.invariant-loop-path
invariant-loop-path l =
    (goal.iterator-loop-path).can_next l.path-iterator
    × (goal.iterator-loop-path).is_finite l.path-iterator
    × (l.made.items ≡ map (shown l.tree) l.yielded)
