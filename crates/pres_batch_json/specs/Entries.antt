-- The entries of a batch as JSON: what is saved of a batch, along with its number and its moment.
use Rattle.std.specs.Prelude.{ℕ, List, [], ◌∷◌, codes, map, Option, Some, None}
use Rattle.serde_json.specs.Data.{Data, null, string, array, object, no_items, item, no_members, member, put}
use Rattle.serde_json.specs.View.{items_of}
use Rattle.pres_tree.specs.Paths.{Path}
use Rattle.pres_tree.specs.Rows.{Rows, rows_in}
use Rattle.pres_tree.specs.JsonPrinting.{json_of}
use Rattle.pres_tree.specs.Scalars.{scalar_printing}
use Rattle.pres_write.specs.declared.basic.Basic.{Basic}
use Rattle.pres_write.specs.declared.draft.DraftLeaf.{DraftLeaf}
use Rattle.pres_write.specs.declared.outcome.Outcome.{Outcome}
use Rattle.pres_write.specs.declared.outcome.Outcome.TheVariants.{Wrote, Stale}
use Rattle.pres_write.specs.Drafts.{slot_printing}
use Rattle.pres_write.specs.OpForms.{op_json}
use Rattle.pres_ids.specs.declared.id.SessionId.{SessionId}
use Rattle.pres_ids.specs.Forms.{whole, session_json, why_word}
use Rattle.pres_wire.specs.Fields.{Named, members_of, path_json}
use Rattle.pres_wire.specs.DownForms.{limit_number}
use Rattle.pres_log.specs.declared.entry.Entry.{Entry}
use Rattle.pres_log.specs.declared.entry.Entry.TheVariants as entry

abbrev pub list_json : {A : Type 0} → (A → Data) → List A → Data
list_json json xs = array (items_of (map json xs))

-- a path, and what is there
abbrev pub row_json : Path → Data → Data
row_json p d = array (item (path_json p) (item d no_items))

-- a write: null where it removes
abbrev pub write_json : Basic → Data
write_json w = row_json w.path (json_of scalar_printing (rows_in w.value))

-- what was left at a path: null where it is to remove
abbrev pub put_json : Path × Rows DraftLeaf → Data
put_json p = row_json p.0 (json_of slot_printing p.1)

-- the outcome of an operation: its writes, or the value that its place held, null for none
abbrev pub outcome_json : Outcome → Data
outcome_json (Wrote writes) = object (member (codes "wrote") (list_json write_json writes) no_members)
outcome_json (Stale held) = object (member (codes "stale") (json_of scalar_printing (rows_in held)) no_members)

abbrev pub number_or_null : Option ℕ → Data
number_or_null None = null
number_or_null (Some n) = whole n

-- the object of an entry: its word, its session and its fields, under their names in byte order
abbrev pub entry_object : List ℕ → SessionId → List Named → Data
entry_object word s fields = object (put (codes "e") (string word) (put (codes "s") (session_json s) (members_of fields)))

abbrev pub entry_json : Entry → Data
entry_json (entry.Open s) = entry_object (codes "open") s []
entry_json (entry.Op s q n op out) = entry_object (codes "op") s ((codes "q", whole q) ∷ (codes "n", whole n) ∷ (codes "op", op_json op) ∷ (codes "out", outcome_json out) ∷ [])
entry_json (entry.Again s q n) = entry_object (codes "again") s ((codes "q", whole q) ∷ (codes "n", whole n) ∷ [])
entry_json (entry.Ended s q why rows) =
    entry_object (codes "ended") s ((codes "q", number_or_null q) ∷ (codes "why", string (why_word why)) ∷ (codes "rows", list_json write_json rows) ∷ [])
entry_json (entry.Left s q puts) = entry_object (codes "left") s ((codes "q", whole q) ∷ (codes "rows", list_json put_json puts) ∷ [])
entry_json (entry.Cancelled s q p) = entry_object (codes "cancelled") s ((codes "q", whole q) ∷ (codes "path", path_json p) ∷ [])
entry_json (entry.Denied s q why) = entry_object (codes "denied") s ((codes "q", whole q) ∷ (codes "why", whole (limit_number why)) ∷ [])
entry_json (entry.On s q p) = entry_object (codes "on") s ((codes "q", whole q) ∷ (codes "path", path_json p) ∷ [])
entry_json (entry.Off s q p) = entry_object (codes "off") s ((codes "q", whole q) ∷ (codes "path", path_json p) ∷ [])

-- the JSON of a batch's entries, in their order
abbrev pub entries_json : List Entry → Data
entries_json es = list_json entry_json es
