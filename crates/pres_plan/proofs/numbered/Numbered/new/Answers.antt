use Rattle.std.proofs.Common.{[], sym, subst}
use Rattle.std.specs.List.Sorted.{IsStrictlySortedBy}
use Rattle.std.specs.Map.{keys_of}
use Rattle.std.specs.Ordering.{nat_cmp}
use Rattle.pres_plan.specs.Standing.{Entries}
use Rattle.pres_plan.proofs.numbered.Numbered.new.Goals as goal

none_rise : IsStrictlySortedBy nat_cmp []
unfolding IsStrictlySortedBy
none_rise = tt

pub invariant_of-result : goal.invariant_of-result
invariant_of-result c = subst (λ (es : Entries). IsStrictlySortedBy nat_cmp (keys_of es)) (sym c.new.ensures.items) none_rise
