-- Messages to a client from JSON.
use Rattle.std.specs.Prelude.{◌≡◌, ◌==◌, ◌+◌, ℕ, List, [], ◌∷◌, if◌then◌else◌, codes, map, Option, Some, None, is_none, option_and_then, option_map, ⊤, Result, Ok, Err}
use Rattle.serde_json.specs.Data.{Data, Items, no_items, item}
use Rattle.serde_json.specs.Find.{get, as_null, as_str, as_array}
use Rattle.serde_json.specs.Read.{read}
use Rattle.pres_tree.specs.Paths.{max_depth}
use Rattle.pres_tree.specs.Rows.{Rows, rows_in, option_of}
use Rattle.pres_tree.specs.JsonReading.{rows_of, fault_of}
use Rattle.pres_tree.specs.declared.scalar.Scalar.{Scalar}
use Rattle.pres_tree.specs.Scalars.{scalar_reading}
use Rattle.pres_write.specs.declared.outcome.Kept.{Kept}
use Rattle.pres_write.specs.declared.outcome.Kept.TheVariants.{Wrote, Stale}
use Rattle.pres_ids.specs.declared.id.SessionId.{SessionId}
use Rattle.pres_ids.specs.declared.id.Stamp.{Stamp}
use Rattle.pres_ids.specs.declared.id.Why.{Why}
use Rattle.pres_wire.specs.declared.fault.Field.TheVariants as field
use Rattle.pres_wire.specs.declared.fault.WireFault.{WireFault}
use Rattle.pres_wire.specs.declared.fault.WireFault.TheVariants.{NotJson, NoSuchMessage, Field as FieldRefused}
use Rattle.pres_wire.specs.declared.down.Code.{Code}
use Rattle.pres_wire.specs.declared.down.Code.TheVariants as code
use Rattle.pres_wire.specs.declared.down.Limit.{Limit}
use Rattle.pres_wire.specs.declared.down.Limit.TheVariants as limit
use Rattle.pres_wire.specs.declared.down.Down.{Down}
use Rattle.pres_wire.specs.declared.down.Down.TheVariants as down
use Rattle.pres_wire.specs.declared.values.PathValue.{PathValue}
use Rattle.pres_wire.specs.DownForms.{down_json}
use Rattle.pres_ids.specs.Forms.{is_word, message_number, message_count, session_of, pair_of, stamp_in, why_in}
use Rattle.pres_wire.specs.Fields.{field_of, path_of}
use Rattle.pres_wire.specs.UpForms.{and_then, needed, session_field, number_field, path_field}
use Rattle.pres_wire.specs.Values.{rise}

-- what is read next, where this was there
abbrev pub given : {A B : Type 0} → Option A → (A → Option B) → Option B
given o f = option_and_then f o

-- ---- what fields hold

-- a value that a tree is read of without a fault
abbrev pub value_of : Data → Option (Rows Scalar)
value_of d = if is_none (fault_of scalar_reading (max_depth + 1) d) then Some (rows_of scalar_reading d) else None

abbrev pub out_in : List ℕ → Option Kept
out_in word = if is_word word (codes "wrote") then Some Wrote else None

-- the value that a place held; null is none
abbrev pub stale_in : Data → Option Kept
stale_in d = option_map (λ v. Stale (option_of v)) (field_of value_of (codes "stale") d)

abbrev pub out_by : Option (List ℕ) → Data → Option Kept
out_by (Some word) d = out_in word
out_by None d = stale_in d

-- a text or an object
abbrev pub out_of : Data → Option Kept
out_of d = out_by (as_str d) d

abbrev pub limit_of : ℕ → Option Limit
limit_of n = if n == 1 then Some limit.Plan else (if n == 2 then Some limit.Listens else None)

abbrev pub limit_in : Data → Option Limit
limit_in d = option_and_then limit_of (message_number d)

abbrev pub session_unless : Option ⊤ → Option SessionId → Option (Option SessionId)
session_unless (Some t) s = Some None
session_unless None s = option_map Some s

-- null or a session
abbrev pub session_or_none : Data → Option (Option SessionId)
session_or_none d = session_unless (as_null d) (session_of d)

-- a path's text, a value
abbrev pub path_value_of : Data → Option PathValue
path_value_of d = given (pair_of d) (λ p. given (path_of p.0) (λ path. given (value_of p.1) (λ v. Some (record { path = path; value = v }))))

abbrev pub values_of_items : Items → Option (List PathValue)
values_of_items no_items = Some []
values_of_items (item d ds) = given (path_value_of d) (λ v. given (values_of_items ds) (λ vs. Some (v ∷ vs)))

abbrev pub if_rising : List PathValue → Option (List PathValue)
if_rising vs = if rise (map (λ v. v.path) vs) then Some vs else None

-- values at paths that rise
abbrev pub values_of : Data → Option (List PathValue)
values_of d = option_and_then if_rising (option_and_then values_of_items (as_array d))

-- ---- fields

-- `ops`
abbrev pub ops_field : Data → Result ℕ WireFault
ops_field d = needed field.Ops (field_of message_count (codes "ops") d)

-- `out`
abbrev pub out_field : Data → Result Kept WireFault
out_field d = needed field.Out (field_of out_of (codes "out") d)

-- `why` of a Gone
abbrev pub why_field : Data → Result Why WireFault
why_field d = needed field.Why (field_of why_in (codes "why") d)

-- `why` of a Denied
abbrev pub limit_field : Data → Result Limit WireFault
limit_field d = needed field.Why (field_of limit_in (codes "why") d)

-- `value`
abbrev pub value_field : Data → Result (Rows Scalar) WireFault
value_field d = needed field.Value (field_of value_of (codes "value") d)

-- `values`
abbrev pub values_field : Data → Result (List PathValue) WireFault
values_field d = needed field.Values (field_of values_of (codes "values") d)

-- `s` of a Fault
abbrev pub session_or_null_field : Data → Result (Option SessionId) WireFault
session_or_null_field d = needed field.Session (field_of session_or_none (codes "s") d)

-- `last`
abbrev pub last_field : Data → Result Stamp WireFault
last_field d = needed field.Last (field_of stamp_in (codes "last") d)

-- `code`, and with code 2 `last`
abbrev pub code_of : ℕ → Data → Result Code WireFault
code_of n d =
    if n == 1 then Ok code.Bad
    else (if n == 2 then and_then (last_field d) (λ last. Ok (code.Old last))
    else (if n == 3 then Ok code.Session
    else (if n == 4 then Ok code.Order
    else (if n == 5 then Ok code.Full
    else (if n == 6 then Ok code.Busy
    else (if n == 7 then Ok code.Spent
    else (if n == 8 then Ok code.Down else Err (FieldRefused field.Code))))))))

abbrev pub code_field : Data → Result Code WireFault
code_field d = and_then (number_field field.Code d) (λ n. code_of n d)

-- ---- messages: their fields in the order in which they are checked

abbrev pub welcome_read : Data → Result Down WireFault
welcome_read d =
    and_then (session_field d) (λ s.
    and_then (number_field field.Z d) (λ z.
    and_then (ops_field d) (λ ops. Ok (down.Welcome s z ops))))

abbrev pub reply_read : Data → Result Down WireFault
reply_read d =
    and_then (session_field d) (λ s.
    and_then (number_field field.R d) (λ r.
    and_then (number_field field.Z d) (λ z.
    and_then (number_field field.Q d) (λ q.
    and_then (number_field field.N d) (λ n.
    and_then (number_field field.Done d) (λ done.
    and_then (out_field d) (λ out. Ok (down.Reply s r z q n done out))))))))

abbrev pub gone_read : Data → Result Down WireFault
gone_read d =
    and_then (session_field d) (λ s.
    and_then (number_field field.R d) (λ r.
    and_then (number_field field.Z d) (λ z.
    and_then (why_field d) (λ reason. Ok (down.Gone s r z reason)))))

abbrev pub fault_read : Data → Result Down WireFault
fault_read d =
    and_then (session_or_null_field d) (λ s.
    and_then (code_field d) (λ c. Ok (down.Fault s c)))

abbrev pub armed_read : Data → Result Down WireFault
armed_read d =
    and_then (session_field d) (λ s.
    and_then (number_field field.R d) (λ r.
    and_then (number_field field.Z d) (λ z.
    and_then (number_field field.Q d) (λ q. Ok (down.Armed s r z q)))))

abbrev pub denied_read : Data → Result Down WireFault
denied_read d =
    and_then (session_field d) (λ s.
    and_then (number_field field.R d) (λ r.
    and_then (number_field field.Z d) (λ z.
    and_then (number_field field.Q d) (λ q.
    and_then (limit_field d) (λ reached. Ok (down.Denied s r z q reached))))))

abbrev pub snap_read : Data → Result Down WireFault
snap_read d =
    and_then (session_field d) (λ s.
    and_then (number_field field.R d) (λ r.
    and_then (number_field field.Z d) (λ z.
    and_then (number_field field.Q d) (λ q.
    and_then (path_field d) (λ p.
    and_then (value_field d) (λ v. Ok (down.Snap s r z q p v)))))))

abbrev pub push_read : Data → Result Down WireFault
push_read d =
    and_then (session_field d) (λ s.
    and_then (number_field field.R d) (λ r.
    and_then (number_field field.Z d) (λ z.
    and_then (values_field d) (λ vs. Ok (down.Push s r z vs)))))

abbrev pub off_done_read : Data → Result Down WireFault
off_done_read d =
    and_then (session_field d) (λ s.
    and_then (number_field field.R d) (λ r.
    and_then (number_field field.Z d) (λ z.
    and_then (number_field field.Q d) (λ q. Ok (down.OffDone s r z q)))))

-- `m` is the word of a message
abbrev pub by_word : Data → Option (List ℕ) → Result Down WireFault
by_word d None = Err NoSuchMessage
by_word d (Some word) =
    if is_word word (codes "welcome") then welcome_read d
    else (if is_word word (codes "reply") then reply_read d
    else (if is_word word (codes "gone") then gone_read d
    else (if is_word word (codes "fault") then fault_read d
    else (if is_word word (codes "armed") then armed_read d
    else (if is_word word (codes "denied") then denied_read d
    else (if is_word word (codes "snap") then snap_read d
    else (if is_word word (codes "push") then push_read d
    else (if is_word word (codes "offdone") then off_done_read d else Err NoSuchMessage))))))))

-- the message of a JSON value, or why it is refused
abbrev pub down_read : Data → Result Down WireFault
down_read d = by_word d (option_and_then as_str (get (codes "m") d))

abbrev pub json_read : Option Data → Result Down WireFault
json_read None = Err NotJson
json_read (Some d) = down_read d

-- the message of a text, or why it is refused
abbrev pub decoded : List ℕ → Result Down WireFault
decoded text = json_read (read text)

-- null held is `None`
abbrev pub one_null : Kept → Kept
one_null Wrote = Wrote
one_null (Stale held) = Stale (option_of (rows_in held))

abbrev pub with_one_null : Down → Down
with_one_null (down.Welcome s z ops) = down.Welcome s z ops
with_one_null (down.Reply s r z q n done out) = down.Reply s r z q n done (one_null out)
with_one_null (down.Gone s r z reason) = down.Gone s r z reason
with_one_null (down.Fault s c) = down.Fault s c
with_one_null (down.Armed s r z q) = down.Armed s r z q
with_one_null (down.Denied s r z q reached) = down.Denied s r z q reached
with_one_null (down.Snap s r z q p v) = down.Snap s r z q p v
with_one_null (down.Push s r z vs) = down.Push s r z vs
with_one_null (down.OffDone s r z q) = down.OffDone s r z q

-- its JSON is read as the message, so that it is the form of no other
abbrev pub HasForm : Down → Type 0
HasForm m = down_read (down_json m) ≡ Ok (with_one_null m)
