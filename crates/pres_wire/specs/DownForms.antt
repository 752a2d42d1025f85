-- Messages to a client as JSON.
use Rattle.std.specs.Prelude.{ℕ, List, [], ◌∷◌, codes, map, Option, Some, None}
use Rattle.serde_json.specs.Data.{Data, null, string, array, object, no_items, item, no_members, member}
use Rattle.serde_json.specs.View.{items_of}
use Rattle.pres_tree.specs.Rows.{rows_in}
use Rattle.pres_tree.specs.JsonPrinting.{json_of}
use Rattle.pres_tree.specs.Scalars.{scalar_printing}
use Rattle.pres_write.specs.declared.outcome.Kept.{Kept}
use Rattle.pres_write.specs.declared.outcome.Kept.TheVariants.{Wrote, Stale}
use Rattle.pres_ids.specs.declared.id.SessionId.{SessionId}
use Rattle.pres_wire.specs.declared.down.Code.{Code}
use Rattle.pres_wire.specs.declared.down.Code.TheVariants as code
use Rattle.pres_wire.specs.declared.down.Limit.{Limit}
use Rattle.pres_wire.specs.declared.down.Limit.TheVariants as limit
use Rattle.pres_wire.specs.declared.down.Down.{Down}
use Rattle.pres_wire.specs.declared.down.Down.TheVariants as down
use Rattle.pres_wire.specs.declared.values.PathValue.{PathValue}
use Rattle.pres_ids.specs.Forms.{whole, stamp_json, session_json, why_word}
use Rattle.pres_wire.specs.Fields.{Named, message, path_json}

abbrev pub code_number : Code → ℕ
code_number code.Bad = 1
code_number (code.Old last) = 2
code_number code.Session = 3
code_number code.Order = 4
code_number code.Full = 5
code_number code.Busy = 6
code_number code.Spent = 7
code_number code.Down = 8

abbrev pub limit_number : Limit → ℕ
limit_number limit.Plan = 1
limit_number limit.Listens = 2

-- the last stamp goes with code 2 alone
abbrev pub last_field : Code → List Named
last_field code.Bad = []
last_field (code.Old last) = (codes "last", stamp_json last) ∷ []
last_field code.Session = []
last_field code.Order = []
last_field code.Full = []
last_field code.Busy = []
last_field code.Spent = []
last_field code.Down = []

-- the outcome of a write; a value that was held is null for none
abbrev pub out_json : Kept → Data
out_json Wrote = string (codes "wrote")
out_json (Stale held) = object (member (codes "stale") (json_of scalar_printing (rows_in held)) no_members)

abbrev pub session_or_null : Option SessionId → Data
session_or_null None = null
session_or_null (Some s) = session_json s

-- a list of a path and the value there
abbrev pub path_value_json : PathValue → Data
path_value_json v = array (item (path_json v.path) (item (json_of scalar_printing v.value) no_items))

abbrev pub values_json : List PathValue → Data
values_json vs = array (items_of (map path_value_json vs))

-- the JSON of a message: its word, and its fields
abbrev pub down_json : Down → Data
down_json (down.Welcome s z ops) = message (codes "welcome") ((codes "s", session_json s) ∷ (codes "z", whole z) ∷ (codes "ops", whole ops) ∷ [])
down_json (down.Reply s r z q n done out) =
    message (codes "reply")
    ((codes "s", session_json s) ∷ (codes "r", whole r) ∷ (codes "z", whole z) ∷ (codes "q", whole q) ∷ (codes "n", whole n) ∷ (codes "done", whole done) ∷ (codes "out", out_json out) ∷ [])
down_json (down.Gone s r z reason) =
    message (codes "gone") ((codes "s", session_json s) ∷ (codes "r", whole r) ∷ (codes "z", whole z) ∷ (codes "why", string (why_word reason)) ∷ [])
down_json (down.Fault s c) = message (codes "fault") ((codes "s", session_or_null s) ∷ (codes "code", whole (code_number c)) ∷ last_field c)
down_json (down.Armed s r z q) = message (codes "armed") ((codes "s", session_json s) ∷ (codes "r", whole r) ∷ (codes "z", whole z) ∷ (codes "q", whole q) ∷ [])
down_json (down.Denied s r z q reached) =
    message (codes "denied") ((codes "s", session_json s) ∷ (codes "r", whole r) ∷ (codes "z", whole z) ∷ (codes "q", whole q) ∷ (codes "why", whole (limit_number reached)) ∷ [])
down_json (down.Snap s r z q p v) =
    message (codes "snap")
    ((codes "s", session_json s) ∷ (codes "r", whole r) ∷ (codes "z", whole z) ∷ (codes "q", whole q) ∷ (codes "path", path_json p) ∷ (codes "value", json_of scalar_printing v) ∷ [])
down_json (down.Push s r z vs) = message (codes "push") ((codes "s", session_json s) ∷ (codes "r", whole r) ∷ (codes "z", whole z) ∷ (codes "values", values_json vs) ∷ [])
down_json (down.OffDone s r z q) = message (codes "offdone") ((codes "s", session_json s) ∷ (codes "r", whole r) ∷ (codes "z", whole z) ∷ (codes "q", whole q) ∷ [])
