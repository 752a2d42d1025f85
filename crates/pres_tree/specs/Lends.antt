-- What children end as, where a value of them is lent.
use Rattle.std.specs.Prelude.{◌≡◌, Option}
use Rattle.std.specs.Borrow.{follows_so, Fml, RattleType, MutBor}
use Rattle.std.specs.Option.{ghost_name_of}
use Rattle.std.specs.BTreeMap.{BTreeMap, WritesThrough}
use Rattle.pres_tree.specs.Keys.{Key, key_cmp}
use Rattle.pres_tree.specs.contracts.children.Children.{the_row}

-- they have at the key the last value written through r, and stay as they are if r is `None`
abbrev pub children_lend : (V : RattleType) → MutBor (BTreeMap Key V.Denot) → Key → Option (MutBor V.Denot) → Fml
children_lend V m k r = follows_so (the_row V) V m.ghost_name (ghost_name_of r) (WritesThrough key_cmp (key_cmp k) m.now) (λ n. n ≡ m.now)
