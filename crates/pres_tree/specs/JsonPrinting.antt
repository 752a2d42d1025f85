-- The JSON value of rows: the object of the children, without nulls, arrays and empty objects.
use Rattle.std.specs.Prelude.{◌≡◌, ◌+◌, ◌≤◌, ℕ, List, [], ◌∷◌, Some, None, if◌then◌else◌}
use Rattle.json.specs.Token.{Token}
use Rattle.json.specs.Tree.{json_tokens, members_tokens}
use Rattle.serde_json.specs.Data.{Data, null, boolean, number, string, array, object, Members, no_members, member}
use Rattle.serde_json.specs.Read.{of_json, of_members}
use Rattle.serde_json.specs.Written.{outline, members_outline}
use Rattle.pres_tree.specs.Keys.{Key, same_key}
use Rattle.pres_tree.specs.Paths.{Path}
use Rattle.pres_tree.specs.Rows.{Rows, height}
use Rattle.pres_tree.specs.Layer.{child_rows}
use Rattle.pres_tree.specs.JsonReading.{Reading, HasKeys, rows_of, fault_of, members_rows, members_fault}

abbrev pub members_in : Data → Members
members_in null = no_members
members_in (boolean b) = no_members
members_in (number n) = no_members
members_in (string s) = no_members
members_in (array ds) = no_members
members_in (object ms) = ms

-- the members with the value at k, which is the first of them or comes before all, made into another
abbrev pub with_first : Key → (Data → Data) → Members → Members
with_first k f no_members = member k (f null) no_members
with_first k f (member l d ms) = if same_key k l then member k (f d) ms else member k (f null) (member l d ms)

-- the JSON value with a leaf more, which comes before all others
abbrev pub with_row : Path → Data → Data → Data
with_row [] a d = a
with_row (k ∷ p) a d = object (with_first k (with_row p a) (members_in d))

abbrev pub json_of : {A : Type 0} → (A → Data) → Rows A → Data
json_of g [] = null
json_of g (r ∷ v) = with_row r.0 (g r.1) (json_of g v)

-- the members of an object's children
abbrev pub members_of : {A : Type 0} → (A → Data) → List (Key × Rows A) → Members
members_of g [] = no_members
members_of g (e ∷ es) = member e.0 (json_of g e.1) (members_of g es)

-- the JSON value is read as these rows, wherever there are levels enough
abbrev pub ReadsBack : {A : Type 0} → (Data → Reading A) → Rows A → Data → Type 0
ReadsBack f v d = (rows_of f d ≡ v) × ((n : ℕ) → height v ≤ n → fault_of f n d ≡ None)

abbrev pub MembersReadBack : {A : Type 0} → (Data → Reading A) → List (Key × Rows A) → Members → Type 0
MembersReadBack f es ms = HasKeys ms × (members_rows f ms ≡ child_rows es) × ((n : ℕ) → height (child_rows es) ≤ n + 1 → members_fault f n ms ≡ None)

-- what is written for the JSON value is read as it: its numbers are whole, and its names rise
abbrev pub IsPlain : Data → Type 0
IsPlain d = of_json (outline d) ≡ Some d

abbrev pub MembersArePlain : Members → Type 0
MembersArePlain ms = of_members (members_outline ms) no_members ≡ Some ms

-- what is written of a JSON value, a token at a time
abbrev pub tokens_of : Data → List Token
tokens_of d = json_tokens (outline d)

-- of an object's members, with its end
abbrev pub tokens_of_members : Members → List Token
tokens_of_members ms = members_tokens (members_outline ms)
