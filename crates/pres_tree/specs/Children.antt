-- Where a key stands in a list of entries, and what becomes of the list once a value of it was lent.
use Rattle.std.specs.Prelude.{◌≡◌, ℕ, List, Result, Option}
use Rattle.std.specs.Borrow.{follows_so, Fml, RattleType, MutBor}
use Rattle.std.specs.Option.{ghost_name_of}
use Rattle.std.specs.Map.{set_value}
use Rattle.std.specs.BTreeMap.{is_at}
use Rattle.std.specs.declared.vec.Vec.{Vec}
use Rattle.std.specs.declared.alloc.Global.{Global}
use Rattle.std.specs.contracts.vec.Vec as vec
use Rattle.std.specs.contracts.alloc.Global as heap
use Rattle.std.specs.contracts.impls.GlobalAllocator.TheImpl.{ghosts}
use Rattle.std.specs.declared.cmp.Ordering.{Ordering}
use Rattle.std_collections.specs.Layout.BTreeMap.{seek}
use Rattle.pres_tree.specs.Keys.{Key, key_cmp}
use Rattle.pres_tree.specs.contracts.key.Key as key
use denote.Struct.Tuple.{Tuple}
use mathlib.Core.List.{[], ◌∷◌}

-- the place of the entry that is equal to the query, or else that of the first one above it
abbrev pub place_of : {K V : Type 0} → (K → Ordering) → List (K × V) → Result ℕ ℕ
place_of compare es = seek compare es

-- a list of entries, as the logic holds it
abbrev pub list_row : RattleType → RattleType
list_row V = vec.the_row (Tuple (key.the_row ∷ V ∷ [])) heap.the_row ghosts

-- the list has at the key the last value written through r, and stays as it is if r is `None`
abbrev pub few_lends : (V : RattleType) → MutBor (Vec (Key × V.Denot) Global) → Key → Option (MutBor V.Denot) → Fml
few_lends V few k r = follows_so (list_row V) V few.ghost_name (ghost_name_of r) (λ w n. n.items ≡ set_value (is_at (key_cmp k)) few.now.items w) (λ n. n ≡ few.now)
