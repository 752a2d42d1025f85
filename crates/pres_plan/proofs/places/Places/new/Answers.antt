use Rattle.std.proofs.Common.{[], sym, subst}
use Rattle.std.specs.List.Sorted.{IsStrictlySortedBy}
use Rattle.std.specs.Map.{keys_of}
use Rattle.pres_tree.specs.Paths.{path_cmp}
use Rattle.pres_plan.specs.Places.{Spots}
use Rattle.pres_plan.proofs.places.Places.new.Goals as goal

none_rise : IsStrictlySortedBy path_cmp []
unfolding IsStrictlySortedBy
none_rise = tt

pub invariant_of-result : goal.invariant_of-result
invariant_of-result c = subst (λ (es : Spots). IsStrictlySortedBy path_cmp (keys_of es)) (sym c.new.ensures.items) none_rise
