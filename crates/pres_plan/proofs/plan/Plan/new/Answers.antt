use Rattle.std.proofs.Common.{refl, arith, []}
use Rattle.std.specs.List.Sorted.{IsStrictlySortedBy}
use Rattle.pres_plan.specs.Plans.{row_cmp, IsPlan}
use Rattle.pres_plan.proofs.Spots.{nothing_stands}
use Rattle.pres_plan.proofs.plan.Plan.new.Goals as goal

none_in_order : IsStrictlySortedBy row_cmp []
unfolding IsStrictlySortedBy
none_in_order = tt

no_plan : IsPlan []
no_plan = record { whole = refl; few = omega arith; in_order = none_in_order }

pub invariant_of-result : goal.invariant_of-result
invariant_of-result c = nothing_stands c.new.result.rows c.new.result.places c.new.ensures.rows c.new.ensures.places no_plan
