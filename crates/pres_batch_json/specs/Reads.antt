-- The entries of a batch from JSON. Unknown names are ignored.
use Rattle.std.specs.Prelude.{◌≡◌, ℕ, List, [], ◌∷◌, if◌then◌else◌, codes, Option, Some, None, is_none, option_and_then, option_map, ⊤}
use Rattle.std.specs.Result.{result_ok}
use Rattle.serde_json.specs.Data.{Data, Items, no_items, item}
use Rattle.serde_json.specs.Find.{get, as_null, as_str, as_array}
use Rattle.serde_json.specs.Read.{read}
use Rattle.pres_tree.specs.Paths.{Path}
use Rattle.pres_tree.specs.Rows.{Rows, rows_in, option_of}
use Rattle.pres_tree.specs.JsonReading.{Reading, rows_of, fault_of, levels_below}
use Rattle.pres_tree.specs.Scalars.{scalar_reading}
use Rattle.pres_write.specs.declared.basic.Basic.{Basic}
use Rattle.pres_write.specs.declared.draft.DraftLeaf.{DraftLeaf}
use Rattle.pres_write.specs.declared.op.Op.{Op}
use Rattle.pres_write.specs.declared.outcome.Outcome.{Outcome}
use Rattle.pres_write.specs.declared.outcome.Outcome.TheVariants.{Wrote, Stale}
use Rattle.pres_write.specs.Basics.{basic}
use Rattle.pres_write.specs.Drafts.{slot_reading}
use Rattle.pres_write.specs.OpForms.{op_read}
use Rattle.pres_write.specs.Unconditionals.{as_puts}
use Rattle.pres_write.specs.Updates.{Places}
use Rattle.pres_ids.specs.declared.id.SessionId.{SessionId}
use Rattle.pres_ids.specs.Forms.{is_word, message_number, session_of, pair_of, why_in}
use Rattle.pres_wire.specs.Fields.{field_of, path_of}
use Rattle.pres_wire.specs.DownReads.{given, value_of, limit_in}
use Rattle.pres_log.specs.declared.entry.Entry.{Entry}
use Rattle.pres_log.specs.declared.entry.Entry.TheVariants as entry
use Rattle.pres_log.specs.Batches.{may_hold}
use Rattle.pres_batch_json.specs.Entries.{entry_json}

-- ---- lists

abbrev pub all_of : {A : Type 0} → (Data → Option A) → Items → Option (List A)
all_of found no_items = Some []
all_of found (item d ds) = given (found d) (λ a. given (all_of found ds) (λ xs. Some (a ∷ xs)))

-- a list whose items are all found
abbrev pub list_of : {A : Type 0} → (Data → Option A) → Data → Option (List A)
list_of found d = option_and_then (all_of found) (as_array d)

-- ---- rows: a path and what is there

-- a value that may stand at the path: it is read without a fault, and no leaf of it is below 32 keys there
abbrev pub rows_below : {A : Type 0} → (Data → Reading A) → Path → Data → Option (Rows A)
rows_below reading p d = if is_none (fault_of reading (levels_below p) d) then Some (rows_of reading d) else None

-- a list of a path's text and a value that may stand there
abbrev pub row_of : {A : Type 0} → (Data → Reading A) → Data → Option (Path × Rows A)
row_of reading d = given (pair_of d) (λ pair. given (path_of pair.0) (λ p. given (rows_below reading p pair.1) (λ v. Some (p, v))))

-- a write: null removes
abbrev pub write_in : Data → Option Basic
write_in d = option_map (λ row. basic row.0 row.1) (row_of scalar_reading d)

-- a draft at its path
abbrev pub put_in : Data → Option (Path × Rows DraftLeaf)
put_in d = row_of slot_reading d

-- drafts at paths in path order, none at or above another, and not too many
abbrev pub puts_in : Data → Option Places
puts_in d = option_and_then as_puts (list_of put_in d)

-- ---- other parts

abbrev pub op_in : Data → Option Op
op_in d = result_ok (op_read d)

-- the writes under `wrote`, or without that the value that a place held under `stale`; null is none
abbrev pub outcome_by : Option Data → Data → Option Outcome
outcome_by (Some writes) d = option_map Wrote (list_of write_in writes)
outcome_by None d = option_map (λ v. Stale (option_of v)) (field_of value_of (codes "stale") d)

abbrev pub outcome_in : Data → Option Outcome
outcome_in d = outcome_by (get (codes "wrote") d) d

abbrev pub number_unless : Option ⊤ → Option ℕ → Option (Option ℕ)
number_unless (Some t) n = Some None
number_unless None n = option_map Some n

-- null or a number
abbrev pub number_or_none : Data → Option (Option ℕ)
number_or_none d = number_unless (as_null d) (message_number d)

-- ---- fields

abbrev pub session_field : Data → Option SessionId
session_field d = field_of session_of (codes "s") d

abbrev pub number_field : List ℕ → Data → Option ℕ
number_field name d = field_of message_number name d

abbrev pub path_field : Data → Option Path
path_field d = field_of path_of (codes "path") d

-- ---- entries

abbrev pub open_read : Data → Option Entry
open_read d = given (session_field d) (λ s. Some (entry.Open s))

-- an operation, and its outcome
abbrev pub done_in : Data → Option (Op × Outcome)
done_in d = given (field_of op_in (codes "op") d) (λ op. given (field_of outcome_in (codes "out") d) (λ out. Some (op, out)))

abbrev pub op_entry_read : Data → Option Entry
op_entry_read d =
    given (number_field (codes "q") d) (λ q.
    given (number_field (codes "n") d) (λ n.
    given (session_field d) (λ s.
    given (done_in d) (λ done. Some (entry.Op s q n done.0 done.1)))))

abbrev pub again_read : Data → Option Entry
again_read d =
    given (number_field (codes "q") d) (λ q.
    given (number_field (codes "n") d) (λ n.
    given (session_field d) (λ s. Some (entry.Again s q n))))

abbrev pub ended_read : Data → Option Entry
ended_read d =
    given (field_of number_or_none (codes "q") d) (λ q.
    given (field_of why_in (codes "why") d) (λ why.
    given (session_field d) (λ s.
    given (field_of (list_of write_in) (codes "rows") d) (λ rows. Some (entry.Ended s q why rows)))))

abbrev pub left_read : Data → Option Entry
left_read d =
    given (number_field (codes "q") d) (λ q.
    given (session_field d) (λ s.
    given (field_of puts_in (codes "rows") d) (λ puts. Some (entry.Left s q puts))))

abbrev pub denied_read : Data → Option Entry
denied_read d =
    given (number_field (codes "q") d) (λ q.
    given (field_of limit_in (codes "why") d) (λ why.
    given (session_field d) (λ s. Some (entry.Denied s q why))))

-- a session, the number of its message, and a path
abbrev pub placed_in : Data → Option (SessionId × ℕ × Path)
placed_in d =
    given (number_field (codes "q") d) (λ q.
    given (session_field d) (λ s.
    given (path_field d) (λ p. Some (s, q, p))))

abbrev pub cancelled_read : Data → Option Entry
cancelled_read d = option_map (λ it. entry.Cancelled it.0 it.1 it.2) (placed_in d)

abbrev pub on_read : Data → Option Entry
on_read d = option_map (λ it. entry.On it.0 it.1 it.2) (placed_in d)

abbrev pub off_read : Data → Option Entry
off_read d = option_map (λ it. entry.Off it.0 it.1 it.2) (placed_in d)

-- `e` is the word of an entry
abbrev pub by_word : Data → Option (List ℕ) → Option Entry
by_word d None = None
by_word d (Some word) =
    if is_word word (codes "open") then open_read d
    else (if is_word word (codes "op") then op_entry_read d
    else (if is_word word (codes "again") then again_read d
    else (if is_word word (codes "ended") then ended_read d
    else (if is_word word (codes "left") then left_read d
    else (if is_word word (codes "cancelled") then cancelled_read d
    else (if is_word word (codes "denied") then denied_read d
    else (if is_word word (codes "on") then on_read d
    else (if is_word word (codes "off") then off_read d else None))))))))

-- the entry of a JSON value
abbrev pub entry_read : Data → Option Entry
entry_read d = by_word d (option_and_then as_str (get (codes "e") d))

-- entries that a batch may hold
abbrev pub if_together : List Entry → Option (List Entry)
if_together es = if may_hold es then Some es else None

abbrev pub entries_read : Data → Option (List Entry)
entries_read d = option_and_then if_together (list_of entry_read d)

-- the entries of a text
abbrev pub entries_in : List ℕ → Option (List Entry)
entries_in text = option_and_then entries_read (read text)

-- ---- what is printed, read again

-- null held is `None`
abbrev pub one_null : Outcome → Outcome
one_null (Wrote writes) = Wrote writes
one_null (Stale held) = Stale (option_of (rows_in held))

abbrev pub with_one_null : Entry → Entry
with_one_null (entry.Op s q n op out) = entry.Op s q n op (one_null out)
with_one_null (entry.Open s) = entry.Open s
with_one_null (entry.Again s q n) = entry.Again s q n
with_one_null (entry.Ended s q why rows) = entry.Ended s q why rows
with_one_null (entry.Left s q puts) = entry.Left s q puts
with_one_null (entry.Cancelled s q p) = entry.Cancelled s q p
with_one_null (entry.Denied s q why) = entry.Denied s q why
with_one_null (entry.On s q p) = entry.On s q p
with_one_null (entry.Off s q p) = entry.Off s q p

-- its JSON is read as the entry, so that it is the form of no other
abbrev pub HasForm : Entry → Type 0
HasForm e = entry_read (entry_json e) ≡ Some (with_one_null e)
