-- What the store of children ends as, where a value of it is lent. No public clause cites this module.
use Rattle.std.specs.Prelude.{◌≡◌, Option}
use Rattle.std.specs.Borrow.{follows_so, Fml, RattleType, MutBor}
use Rattle.std.specs.Option.{ghost_name_of}
use Rattle.std.specs.Map.{set_value}
use Rattle.std.specs.BTreeMap.{is_at}
use Rattle.pres_tree.specs.Keys.{Key, key_cmp}
use Rattle.pres_tree.specs.Stores.{seen}
use Rattle.pres_tree.specs.declared.children.Store.{Store}
use Rattle.pres_tree.specs.contracts.children.Store.{the_row}

-- it has at the key the last value written through r, and stays as it is if r is `None`
abbrev pub store_lends : (V : RattleType) → MutBor (Store V.Denot) → Key → Option (MutBor V.Denot) → Fml
store_lends V s k r = follows_so (the_row V) V s.ghost_name (ghost_name_of r) (λ w n. (seen n).entries ≡ set_value (is_at (key_cmp k)) (seen s.now).entries w) (λ n. n ≡ s.now)
