-- The JSON of ids and numbers, and what is read of it.
use Rattle.std.specs.Prelude.{◌&&◌, ◌==◌, ℕ, Bool, List, nat_le, if◌then◌else◌, codes, Option, Some, None, option_and_then}
use Rattle.std.specs.Cmp.Lexicographic.{pointwise}
use Rattle.serde_json.specs.Data.{Data, number, string, array, unsigned, Items, no_items, item}
use Rattle.serde_json.specs.Find.{as_str, as_array, as_number, as_u64}
use Rattle.pres_ids.specs.declared.id.SessionId.{SessionId}
use Rattle.pres_ids.specs.declared.id.Stamp.{Stamp}
use Rattle.pres_ids.specs.declared.id.Why.{Why}
use Rattle.pres_ids.specs.declared.id.Why.TheVariants as why
use Rattle.pres_ids.specs.Ids.{ClientId, is_client_id}
use Rattle.pres_ids.specs.Numbers.{greatest_number}

-- ---- JSON

abbrev pub whole : ℕ → Data
whole n = number (unsigned n)

abbrev pub stamp_json : Stamp → Data
stamp_json t = array (item (whole t.incarnation) (item (whole t.attempt) no_items))

abbrev pub session_json : SessionId → Data
session_json s = array (item (string s.client) (item (whole s.incarnation) (item (whole s.attempt) no_items)))

-- ---- from JSON

-- a number of a message: 1 to 2^53 - 1
abbrev pub in_range : ℕ → Option ℕ
in_range n = if nat_le 1 n && nat_le n greatest_number then Some n else None

abbrev pub message_number : Data → Option ℕ
message_number d = option_and_then in_range (option_and_then as_u64 (as_number d))

-- a count: 0 to 2^53 - 1
abbrev pub message_count : Data → Option ℕ
message_count d = option_and_then (λ n. if nat_le n greatest_number then Some n else None) (option_and_then as_u64 (as_number d))

-- a list of two items
abbrev pub two_items : Items → Option (Data × Data)
two_items no_items = None
two_items (item a no_items) = None
two_items (item a (item b no_items)) = Some (a, b)
two_items (item a (item b (item d ds))) = None

abbrev pub pair_of : Data → Option (Data × Data)
pair_of d = option_and_then two_items (as_array d)

-- an incarnation, an attempt
abbrev pub stamp : Option ℕ → Option ℕ → Option Stamp
stamp (Some i) (Some a) = Some (record { incarnation = i; attempt = a })
stamp (Some i) None = None
stamp None a = None

abbrev pub stamp_in : Data → Option Stamp
stamp_in d = option_and_then (λ p. stamp (message_number p.0) (message_number p.1)) (pair_of d)

-- a client id
abbrev pub client_in : List ℕ → Option ClientId
client_in text = if is_client_id text then Some text else None

abbrev pub client_of : Data → Option ClientId
client_of d = option_and_then client_in (as_str d)

abbrev pub session : Option ClientId → Option ℕ → Option ℕ → Option SessionId
session (Some c) (Some i) (Some a) = Some (record { client = c; incarnation = i; attempt = a })
session (Some c) (Some i) None = None
session (Some c) None a = None
session None i a = None

-- three items: a client id, an incarnation, an attempt
abbrev pub session_in_items : Items → Option SessionId
session_in_items no_items = None
session_in_items (item c no_items) = None
session_in_items (item c (item i no_items)) = None
session_in_items (item c (item i (item a no_items))) = session (client_of c) (message_number i) (message_number a)
session_in_items (item c (item i (item a (item d ds)))) = None

abbrev pub session_of : Data → Option SessionId
session_of d = option_and_then session_in_items (as_array d)

-- ---- why a session ended

abbrev pub is_word : List ℕ → List ℕ → Bool
is_word word name = pointwise ◌==◌ word name

abbrev pub why_word : Why → List ℕ
why_word why.Bye = codes "bye"
why_word why.Lost = codes "lost"
why_word why.Lease = codes "lease"
why_word why.Superseded = codes "superseded"
why_word why.Slow = codes "slow"
why_word why.Restart = codes "restart"

abbrev pub why_of : List ℕ → Option Why
why_of word =
    if is_word word (codes "bye") then Some why.Bye
    else (if is_word word (codes "lost") then Some why.Lost
    else (if is_word word (codes "lease") then Some why.Lease
    else (if is_word word (codes "superseded") then Some why.Superseded
    else (if is_word word (codes "slow") then Some why.Slow
    else (if is_word word (codes "restart") then Some why.Restart else None)))))

-- a text that is a word for why a session ended
abbrev pub why_in : Data → Option Why
why_in d = option_and_then why_of (as_str d)
