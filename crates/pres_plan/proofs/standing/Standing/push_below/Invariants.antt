use Rattle.std.proofs.Common.{◌≡◌, ◌++◌, map, drop}
use Rattle.pres_plan.proofs.standing.Standing.push_below.Given as goal

abbrev pub invariant-loop-spot : goal.invariant-loop-spot
invariant-loop-spot l = l.numbers.items ++ map (λ e. e.1.row) (drop l.spot-index l.spot-items) ≡ l.fn.numbers.items ++ map (λ e. e.1.row) l.spot-items
