-- One level of a value, with each child seen as its rows.
use Rattle.std.specs.Prelude.{◌≡◌, ◌+◌, ◌<◌, ℕ, List, [], ◌∷◌, ◌++◌, length, max, false}
use Rattle.std.specs.BTreeMap.{IsOrdered}
use Rattle.pres_tree.specs.Keys.{Key, key_cmp}
use Rattle.pres_tree.specs.Paths.{path_cmp, sorted_by}
use Rattle.pres_tree.specs.Rows.{Rows, IsValue, InOrder, is_null, placed, depth_of}
use Rattle.pres_tree.specs.declared.nested.Node.{Node}
use Rattle.pres_tree.specs.declared.nested.Node.TheVariants.{Empty, Leaf, Object}

-- the rows of all children, each below its key
abbrev pub child_rows : {A : Type 0} → List (Key × Rows A) → Rows A
child_rows [] = []
child_rows (e ∷ es) = placed (e.0 ∷ []) e.1 ++ child_rows es

abbrev pub rows_of_node : {A : Type 0} → Node A → Rows A
rows_of_node Empty = []
rows_of_node (Leaf s) = ([], s) ∷ []
rows_of_node (Object m) = sorted_by path_cmp (child_rows m.entries)

-- no child is null, and its rows are in order
abbrev pub IsChild : {A : Type 0} → Rows A → Type 0
IsChild v = (is_null v ≡ false) × InOrder v

abbrev pub Children : {A : Type 0} → List (Key × Rows A) → Type 0
Children [] = Unit {0}
Children (e ∷ es) = IsChild e.1 × Children es

abbrev pub IsNode : {A : Type 0} → Node A → Type 0
IsNode Empty = Unit {0}
IsNode (Leaf s) = Unit {0}
IsNode (Object m) = (0 < length m.entries) × Children m.entries × IsOrdered key_cmp m × IsValue (sorted_by path_cmp (child_rows m.entries))

-- the most keys to a leaf, from the root above these children
abbrev pub deepest_of : {A : Type 0} → List (Key × Rows A) → ℕ
deepest_of [] = 0
deepest_of (e ∷ es) = max (depth_of e.1 + 1) (deepest_of es)
