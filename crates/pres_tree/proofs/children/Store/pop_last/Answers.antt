use Rattle.std.proofs.Common.{subst}
use Rattle.std.specs.List.Sorted.{IsStrictlySortedBy}
use Rattle.std.specs.Map.{keys_of}
use Rattle.std.specs.Option.{option_to_list}
use Rattle.pres_tree.specs.Keys.{key_cmp}
use Rattle.pres_tree.specs.Stores.{IsSound}
use Rattle.pres_tree.proofs.Places.{rise_front}
use Rattle.pres_tree.proofs.children.Store.pop_last.Goals as goal

pub returns-in-Few-clause-ordered : goal.returns-in-Few-clause-ordered
returns-in-Few-clause-ordered g c =
    rise_front c.pop.new.self.items (option_to_list c.pop.result)
    (subst (λ es. IsStrictlySortedBy key_cmp (keys_of es)) c.pop.ensures.items (subst IsSound c.in-Few.is c.requires))
