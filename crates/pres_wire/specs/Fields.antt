-- The fields of messages: their JSON, and what is read of it.
use Rattle.std.specs.Prelude.{ℕ, List, [], ◌∷◌, if◌then◌else◌, codes, Option, Some, None, is_none, option_and_then}
use Rattle.serde_json.specs.Data.{Data, string, object, Members, no_members, put}
use Rattle.serde_json.specs.Find.{get, as_str}
use Rattle.pres_tree.specs.Paths.{Path, segments, path_fault, path_text}

-- ---- JSON of fields

-- a name and its value
abbrev pub Named : Type 0
Named = List ℕ × Data

abbrev pub members_of : List Named → Members
members_of [] = no_members
members_of (f ∷ fs) = put f.0 f.1 (members_of fs)

-- the object of a message: its word and its fields, under their names in byte order
abbrev pub message : List ℕ → List Named → Data
message word fields = object (put (codes "m") (string word) (members_of fields))

abbrev pub path_json : Path → Data
path_json p = string (path_text p)

-- ---- fields from JSON

-- the field of this name, where it is what it has to be
abbrev pub field_of : {A : Type 0} → (Data → Option A) → List ℕ → Data → Option A
field_of kind name d = option_and_then kind (get name d)

-- a text that is a path's
abbrev pub path_in : List ℕ → Option Path
path_in text = if is_none (path_fault text) then Some (segments text) else None

abbrev pub path_of : Data → Option Path
path_of d = option_and_then path_in (as_str d)
