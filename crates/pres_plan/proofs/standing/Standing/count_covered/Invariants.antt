use Rattle.std.proofs.Common.{◌≡◌, length, filter, take}
use Rattle.std.specs.List.{list_any}
use Rattle.std.specs.Map.{values_of}
use Rattle.pres_tree.specs.Paths.{is_prefix}
use Rattle.pres_plan.specs.Plans.{path_of}
use Rattle.pres_plan.proofs.standing.Standing.count_covered.Given as goal

abbrev pub invariant-loop-placement : goal.invariant-loop-placement
invariant-loop-placement l = l.count ≡ length (filter (λ row. list_any (λ p. is_prefix p.0 (path_of row.action)) (take l.placement-index l.placements)) (values_of l.self.rows))
