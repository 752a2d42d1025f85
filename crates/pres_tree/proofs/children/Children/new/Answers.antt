use Rattle.std.proofs.Common.{sym, subst}
use Rattle.std.specs.List.Sorted.{IsStrictlySortedBy}
use Rattle.std.specs.Map.{keys_of}
use Rattle.pres_tree.specs.Keys.{key_cmp}
use Rattle.pres_tree.proofs.Places.{none_rise}
use Rattle.pres_tree.proofs.children.Children.new.Goals as goal

pub invariant_of-result : goal.invariant_of-result
invariant_of-result g c = subst (λ es. IsStrictlySortedBy key_cmp (keys_of es)) (sym c.new.ensures.items) none_rise

pub returns-clause-ordered : goal.returns-clause-ordered
returns-clause-ordered g c = subst (λ es. IsStrictlySortedBy key_cmp (keys_of es)) (sym c.new.ensures.items) none_rise
