-- The forms in which children are kept, seen as one ordered map. No public clause cites this module.
use Rattle.std.proofs.Common.{inl}
use Rattle.std.specs.BTreeMap.{BTreeMap, IsOrdered}
use Rattle.std_collections.specs.Layout.BTreeMap.{btree_map}
use Rattle.pres_tree.specs.Keys.{Key, key_cmp}
use Rattle.pres_tree.specs.declared.children.Store.{Store}
use Rattle.pres_tree.specs.declared.children.Store.TheVariants.{Few, Many}

-- a list is seen as the map with its entries
abbrev pub seen : {V : Type 0} → Store V → BTreeMap Key V
seen (Few few) = btree_map few.items (inl tt)
seen (Many many) = many

-- the keys rise
abbrev pub IsSound : {V : Type 0} → Store V → Type 0
IsSound s = IsOrdered key_cmp (seen s)
