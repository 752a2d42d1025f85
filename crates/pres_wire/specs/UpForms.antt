-- Messages to the server as JSON.
use Rattle.std.specs.Prelude.{ℕ, List, [], ◌∷◌, if◌then◌else◌, codes, nat_lt, length, Option, Some, None, option_and_then, Result, Ok, Err}
use Rattle.serde_json.specs.Data.{Data}
use Rattle.serde_json.specs.Find.{get, as_str}
use Rattle.serde_json.specs.Read.{read}
use Rattle.pres_tree.specs.Paths.{Path}
use Rattle.pres_write.specs.declared.op.Op.{Op}
use Rattle.pres_write.specs.declared.unconditional.Unconditional.{Unconditional}
use Rattle.pres_write.specs.declared.fault.WriteFault.{WriteFault}
use Rattle.pres_write.specs.OpForms.{op_json, op_read}
use Rattle.pres_write.specs.Unconditionals.{as_op, unconditional_read}
use Rattle.pres_ids.specs.declared.id.SessionId.{SessionId}
use Rattle.pres_wire.specs.declared.fault.Field.{Field}
use Rattle.pres_wire.specs.declared.fault.Field.TheVariants as field
use Rattle.pres_wire.specs.declared.fault.WireFault.{WireFault}
use Rattle.pres_wire.specs.declared.fault.WireFault.TheVariants.{NotJson, TooLong, NoSuchMessage, Field as FieldRefused, Write}
use Rattle.pres_wire.specs.declared.up.Up.{Up}
use Rattle.pres_wire.specs.declared.up.Up.TheVariants as up
use Rattle.pres_wire.specs.Faults.{field_name}
use Rattle.pres_ids.specs.Forms.{is_word, whole, session_json, message_number, session_of}
use Rattle.pres_wire.specs.Fields.{message, path_json, field_of, path_of}

-- the JSON of a message: its word, and its fields in the order in which they are checked
abbrev pub up_json : Up → Data
up_json (up.Hello s) = message (codes "hello") ((codes "s", session_json s) ∷ [])
up_json (up.Op s q n op) = message (codes "op") ((codes "s", session_json s) ∷ (codes "q", whole q) ∷ (codes "n", whole n) ∷ (codes "op", op_json op) ∷ [])
up_json (up.Bye s q) = message (codes "bye") ((codes "s", session_json s) ∷ (codes "q", whole q) ∷ [])
up_json (up.Left s q op) = message (codes "left") ((codes "s", session_json s) ∷ (codes "q", whole q) ∷ (codes "op", op_json (as_op op)) ∷ [])
up_json (up.Cancel s q p) = message (codes "cancel") ((codes "s", session_json s) ∷ (codes "q", whole q) ∷ (codes "path", path_json p) ∷ [])
up_json (up.Beat s) = message (codes "beat") ((codes "s", session_json s) ∷ [])
up_json (up.On s q p) = message (codes "on") ((codes "s", session_json s) ∷ (codes "q", whole q) ∷ (codes "path", path_json p) ∷ [])
up_json (up.Off s q p) = message (codes "off") ((codes "s", session_json s) ∷ (codes "q", whole q) ∷ (codes "path", path_json p) ∷ [])

-- ---- reading

-- what is read next, unless this was refused
abbrev pub and_then : {A B : Type 0} → Result A WireFault → (A → Result B WireFault) → Result B WireFault
and_then (Ok a) f = f a
and_then (Err e) f = Err e

-- a field that is missing or wrong is named
abbrev pub needed : {A : Type 0} → Field → Option A → Result A WireFault
needed f (Some a) = Ok a
needed f None = Err (FieldRefused f)

-- `s`
abbrev pub session_field : Data → Result SessionId WireFault
session_field d = needed field.Session (field_of session_of (codes "s") d)

-- `q` and `n`
abbrev pub number_field : Field → Data → Result ℕ WireFault
number_field f d = needed f (field_of message_number (field_name f) d)

-- what an operation is refused for is a Write
abbrev pub or_write : {A : Type 0} → Result A WriteFault → Result A WireFault
or_write (Ok op) = Ok op
or_write (Err e) = Err (Write e)

-- `op`
abbrev pub op_field : Data → Result Op WireFault
op_field d = and_then (needed field.Op (get (codes "op") d)) (λ v. or_write (op_read v))

-- `op` of a Left: a transaction, whatever else it holds, is a wrong field
abbrev pub left_field : Data → Result Unconditional WireFault
left_field d = and_then (needed field.Op (get (codes "op") d)) (λ v. and_then (or_write (unconditional_read v)) (needed field.Op))

-- `path`
abbrev pub path_field : Data → Result Path WireFault
path_field d = needed field.Path (field_of path_of (codes "path") d)

-- the fields of each message, in the order in which they are checked
abbrev pub hello_read : Data → Result Up WireFault
hello_read d = and_then (session_field d) (λ s. Ok (up.Hello s))

abbrev pub op_message_read : Data → Result Up WireFault
op_message_read d =
    and_then (session_field d) (λ s. and_then (number_field field.Q d) (λ q. and_then (number_field field.N d) (λ n. and_then (op_field d) (λ op. Ok (up.Op s q n op)))))

abbrev pub bye_read : Data → Result Up WireFault
bye_read d = and_then (session_field d) (λ s. and_then (number_field field.Q d) (λ q. Ok (up.Bye s q)))

abbrev pub left_read : Data → Result Up WireFault
left_read d = and_then (session_field d) (λ s. and_then (number_field field.Q d) (λ q. and_then (left_field d) (λ op. Ok (up.Left s q op))))

abbrev pub cancel_read : Data → Result Up WireFault
cancel_read d = and_then (session_field d) (λ s. and_then (number_field field.Q d) (λ q. and_then (path_field d) (λ p. Ok (up.Cancel s q p))))

abbrev pub beat_read : Data → Result Up WireFault
beat_read d = and_then (session_field d) (λ s. Ok (up.Beat s))

abbrev pub on_read : Data → Result Up WireFault
on_read d = and_then (session_field d) (λ s. and_then (number_field field.Q d) (λ q. and_then (path_field d) (λ p. Ok (up.On s q p))))

abbrev pub off_read : Data → Result Up WireFault
off_read d = and_then (session_field d) (λ s. and_then (number_field field.Q d) (λ q. and_then (path_field d) (λ p. Ok (up.Off s q p))))

-- `m` is the word of a message
abbrev pub by_word : Data → Option (List ℕ) → Result Up WireFault
by_word d None = Err NoSuchMessage
by_word d (Some word) =
    if is_word word (codes "hello") then hello_read d
    else (if is_word word (codes "op") then op_message_read d
    else (if is_word word (codes "bye") then bye_read d
    else (if is_word word (codes "left") then left_read d
    else (if is_word word (codes "cancel") then cancel_read d
    else (if is_word word (codes "beat") then beat_read d
    else (if is_word word (codes "on") then on_read d
    else (if is_word word (codes "off") then off_read d else Err NoSuchMessage)))))))

-- the message of a JSON value, or why it is refused
abbrev pub up_read : Data → Result Up WireFault
up_read d = by_word d (option_and_then as_str (get (codes "m") d))

-- the bytes of the longest text that is read
abbrev pub longest_text : ℕ
longest_text = 1048576

abbrev pub json_read : Option Data → Result Up WireFault
json_read None = Err NotJson
json_read (Some d) = up_read d

-- the message of a text, or why it is refused
abbrev pub decoded : List ℕ → Result Up WireFault
decoded text = if nat_lt longest_text (length text) then Err TooLong else json_read (read text)
