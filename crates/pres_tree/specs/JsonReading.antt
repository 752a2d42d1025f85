-- The rows of a JSON value, and what is wrong with it first, in a walk in byte order of keys.
use Rattle.std.specs.Prelude.{◌-◌, ◌+◌, ◌<◌, ◌==◌, ℕ, Bool, true, false, IsTrue, [], ◌∷◌, ◌++◌, length, Option, Some, None, if◌then◌else◌}
use Rattle.std.specs.Fmt.{decimal}
use Rattle.std.specs.List.{list_all}
use Rattle.std.specs.Option.{option_map, option_or}
use Rattle.std.specs.Ordering.{is_lt}
use Rattle.serde_json.specs.Data.{Data, null, boolean, number, string, array, object, Items, no_items, item, Members, no_members, member}
use Rattle.pres_tree.specs.declared.fault.TreeFault.{TreeFault}
use Rattle.pres_tree.specs.declared.fault.TreeFault.TheVariants.{TooDeep}
use Rattle.pres_tree.specs.Keys.{Key, key_cmp, key_fault, is_key}
use Rattle.pres_tree.specs.Paths.{Path, max_depth, path_cmp, sorted_by}
use Rattle.pres_tree.specs.Rows.{Rows, Holds, placed}

-- what a JSON value is to a kind of leaf: no leaf, a leaf, or refused where a leaf would stand
pub data Reading (A : Type 0) : Type 0 where
  branch : Reading A
  leaf : A → Reading A
  bad : TreeFault → Reading A

abbrev pub is_leaf : {A : Type 0} → Reading A → Bool
is_leaf branch = false
is_leaf (leaf a) = true
is_leaf (bad e) = true

-- all names are keys
abbrev pub HasKeys : Members → Type 0
HasKeys no_members = Unit {0}
HasKeys (member k d ms) = IsTrue (is_key k) × HasKeys ms

abbrev pub rows_or : {A : Type 0} → Reading A → Rows A → Rows A
rows_or branch v = v
rows_or (leaf a) v = ([], a) ∷ []
rows_or (bad e) v = []

-- a leaf with no level left for it is too deep
abbrev pub fault_or : {A : Type 0} → ℕ → Reading A → Option TreeFault → Option TreeFault
fault_or n branch o = o
fault_or n (leaf a) o = if n == 0 then Some TooDeep else None
fault_or n (bad e) o = if n == 0 then Some TooDeep else Some e

-- the fault at a key, if there is one
abbrev pub KeyedFault : Type 0
KeyedFault = Option (Key × TreeFault)

abbrev pub fault_at : Key → Option TreeFault → KeyedFault
fault_at k o = option_map (λ e. (k, e)) o

abbrev pub fault_in : KeyedFault → Option TreeFault
fault_in o = option_map (λ p. p.1) o

-- of two faults the one whose key comes first
abbrev pub first_of : KeyedFault → KeyedFault → KeyedFault
first_of None o = o
first_of (Some p) None = Some p
first_of (Some p) (Some q) = if is_lt (key_cmp q.0 p.0) then Some q else Some p

abbrev mutual
  pub rows_of : {A : Type 0} → (Data → Reading A) → Data → Rows A
  rows_of f null = rows_or (f null) []
  rows_of f (boolean b) = rows_or (f (boolean b)) []
  rows_of f (number n) = rows_or (f (number n)) []
  rows_of f (string s) = rows_or (f (string s)) []
  rows_of f (array ds) = rows_or (f (array ds)) (sorted_by path_cmp (items_rows f 0 ds))
  rows_of f (object ms) = rows_or (f (object ms)) (sorted_by path_cmp (members_rows f ms))

  -- an item stands under its index
  pub items_rows : {A : Type 0} → (Data → Reading A) → ℕ → Items → Rows A
  items_rows f i no_items = []
  items_rows f i (item d ds) = placed (decimal i ∷ []) (rows_of f d) ++ items_rows f (i + 1) ds

  pub members_rows : {A : Type 0} → (Data → Reading A) → Members → Rows A
  members_rows f no_members = []
  members_rows f (member k d ms) = placed (k ∷ []) (rows_of f d) ++ members_rows f ms

-- the levels for the leaves of a value at the path: one for each key that may follow, and its own
abbrev pub levels_below : Path → ℕ
levels_below p = max_depth + 1 - length p

-- what is wrong first, with n levels left
abbrev mutual
  pub fault_of : {A : Type 0} → (Data → Reading A) → ℕ → Data → Option TreeFault
  fault_of f n null = fault_or n (f null) None
  fault_of f n (boolean b) = fault_or n (f (boolean b)) None
  fault_of f n (number x) = fault_or n (f (number x)) None
  fault_of f n (string s) = fault_or n (f (string s)) None
  fault_of f n (array ds) = fault_or n (f (array ds)) (fault_in (items_fault f (n - 1) 0 ds))
  fault_of f n (object ms) = fault_or n (f (object ms)) (members_fault f (n - 1) ms)

  -- the items from the index i on: the fault whose index, as a key, comes first
  pub items_fault : {A : Type 0} → (Data → Reading A) → ℕ → ℕ → Items → KeyedFault
  items_fault f n i no_items = None
  items_fault f n i (item d ds) = first_of (fault_at (decimal i) (fault_of f n d)) (items_fault f n (i + 1) ds)

  -- names stand in byte order: a name's own fault comes before its value's
  pub members_fault : {A : Type 0} → (Data → Reading A) → ℕ → Members → Option TreeFault
  members_fault f n no_members = None
  members_fault f n (member k d ms) = option_or (key_fault k) (option_or (fault_of f n d) (members_fault f n ms))

-- each leaf has a level, and each name that leads to it is a key
abbrev pub Shallow : {A : Type 0} → ℕ → Rows A → Type 0
Shallow n v = (x : Path) → Holds v x → (length x < n) × IsTrue (list_all is_key x)
