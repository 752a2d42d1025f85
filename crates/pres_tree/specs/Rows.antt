-- What stands at and below a place, as the list of its rows in path order.
-- A row is the path of a leaf and the leaf. Null is the empty list.
use Rattle.std.specs.Prelude.{◌≡◌, ◌+◌, T, Bool, true, false, IsSome, List, [], ◌∷◌, ◌++◌, ℕ, map, max, length, Option, Some, None}
use Rattle.std.specs.List.{filter_map}
use Rattle.std.specs.Option.{option_map}
use Rattle.std.specs.FinMap.Entries.{find, is_sorted}
use Rattle.pres_tree.specs.Keys.{Key}
use Rattle.pres_tree.specs.Paths.{Path, IsPath, path_cmp, below}

abbrev pub Rows : Type 0 → Type 0
Rows A = List (Path × A)

abbrev pub is_null : {A : Type 0} → Rows A → Bool
is_null [] = true
is_null (r ∷ v) = false

-- the leaf at the place
abbrev pub leaf_at : {A : Type 0} → Rows A → Path → Option A
leaf_at v x = find path_cmp x v

-- a leaf stands at the place
abbrev pub Holds : {A : Type 0} → Rows A → Path → Type 0
Holds v x = IsSome (leaf_at v x)

-- the rows rise in path order
abbrev pub InOrder : {A : Type 0} → Rows A → Type 0
InOrder v = T (is_sorted path_cmp v)

-- what every value keeps
pub record IsValue {A : Type 0} (v : Rows A) : Type 0 where
  pub in_order : InOrder v
  -- no leaf stands above another
  pub apart : (x z : Path) → Holds v x → Holds v (x ++ z) → z ≡ []
  -- each place is a path: few enough keys, and each a key
  pub paths : (x : Path) → Holds v x → IsPath x

-- the value may stand at the path: each of its places is a path there
abbrev pub Fits : {A : Type 0} → Path → Rows A → Type 0
Fits p v = (x : Path) → Holds v x → IsPath (p ++ x)

-- the rows at or below p, with p cut off
abbrev pub value_at : {A : Type 0} → Path → Rows A → Rows A
value_at p rows = filter_map (λ r. option_map (λ x. (x, r.1)) (below p r.0)) rows

-- the rows with p put before each path
abbrev pub placed : {A : Type 0} → Path → Rows A → Rows A
placed p rows = map (λ r. (p ++ r.0, r.1)) rows

-- the keys of the longest path
abbrev pub depth_of : {A : Type 0} → Rows A → ℕ
depth_of [] = 0
depth_of (r ∷ rs) = max (length r.0) (depth_of rs)

-- 0 for no rows, and else one more than the keys of the longest path
abbrev pub height : {A : Type 0} → Rows A → ℕ
height [] = 0
height (r ∷ rs) = max (length r.0 + 1) (height rs)

-- the rows with each leaf changed
abbrev pub with_leaves : {A B : Type 0} → (A → B) → Rows A → Rows B
with_leaves f v = map (λ r. (r.0, f r.1)) v

abbrev pub children_with : {A B : Type 0} → (A → B) → List (Key × Rows A) → List (Key × Rows B)
children_with f es = map (λ e. (e.0, with_leaves f e.1)) es

-- null is `None` where code and messages hold a value or nothing
abbrev pub option_of : {A : Type 0} → Rows A → Option (Rows A)
option_of [] = None
option_of (r ∷ v) = Some (r ∷ v)

abbrev pub rows_in : {A : Type 0} → Option (Rows A) → Rows A
rows_in None = []
rows_in (Some v) = v
