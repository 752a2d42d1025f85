use Rattle.std.proofs.Common.{subst}
use Rattle.std.specs.Option.{option_to_list}
use Rattle.std.specs.List.Sorted.{IsStrictlySortedBy}
use Rattle.std.specs.Map.{keys_of}
use Rattle.std.specs.Ordering.{nat_cmp}
use Rattle.pres_plan.specs.Standing.{Entries}
use Rattle.pres_plan.proofs.Searches.{rise_front}
use Rattle.pres_plan.proofs.numbered.Numbered.pop.Goals as goal

pub invariant_of-self : goal.invariant_of-self
invariant_of-self c = rise_front nat_cmp c.pop.new.self.items (option_to_list c.pop.result) (subst (λ (es : Entries). IsStrictlySortedBy nat_cmp (keys_of es)) c.pop.ensures.items c.self.invariant)
