-- When the client of each open session was heard of last: the greatest moment of the session's messages that were
-- accepted or passed over, its Hello among them. Counting by the moments of turns is ours.
use Rattle.std.specs.Prelude.{ℕ, ◌+◌, nat_lt, if◌then◌else◌, max, not, List, [], ◌∷◌, Option, Some, None}
use Rattle.std.specs.FinMap.Entries.{find, put, where_key}
use Rattle.pres_ids.specs.declared.id.SessionId.{SessionId}
use Rattle.pres_ids.specs.Ids.{ClientId, client_cmp, same_client}
use Rattle.pres_wire.specs.Messages.{session_in}
use Rattle.pres_log.specs.declared.entry.Entry.{Entry}
use Rattle.pres_log.specs.declared.entry.Entry.TheVariants as entry
use Rattle.pres_server.specs.declared.input.Input.{Input}
use Rattle.pres_server.specs.declared.input.Input.TheVariants as input

-- the clients with their moments, in byte order of clients
abbrev pub Heard : Type 0
Heard = List (ClientId × ℕ)

-- when the client was heard of last
abbrev pub heard_last : Heard → ClientId → Option ℕ
heard_last heard client = find client_cmp client heard

abbrev pub heard_since : Option ℕ → ClientId → ℕ → Heard → Heard
heard_since None client moment heard = heard
heard_since (Some last) client moment heard = put client_cmp client (max last moment) heard

-- heard of again, which never takes a moment back
abbrev pub heard_again : ClientId → ℕ → Heard → Heard
heard_again client moment heard = heard_since (heard_last heard client) client moment heard

-- after an entry that was made at the moment
abbrev pub heard_after : ℕ → Entry → Heard → Heard
heard_after moment (entry.Open s) heard = put client_cmp s.client moment heard
heard_after moment (entry.Op s q n op outcome) heard = heard_again s.client moment heard
heard_after moment (entry.Again s q n) heard = heard_again s.client moment heard
heard_after moment (entry.Left s q puts) heard = heard_again s.client moment heard
heard_after moment (entry.Cancelled s q path) heard = heard_again s.client moment heard
heard_after moment (entry.Denied s q why) heard = heard_again s.client moment heard
heard_after moment (entry.On s q path) heard = heard_again s.client moment heard
heard_after moment (entry.Off s q path) heard = heard_again s.client moment heard
heard_after moment (entry.Ended s q why rows) heard = where_key client_cmp (λ c. not (same_client s.client c)) heard

-- after the entries of a batch
abbrev pub heard_after_all : ℕ → List Entry → Heard → Heard
heard_after_all moment [] heard = heard
heard_after_all moment (e ∷ later) heard = heard_after_all moment later (heard_after moment e heard)

-- the session whose message an input is
abbrev pub heard_from : Input → Option SessionId
heard_from (input.Up m) = Some (session_in m)
heard_from _ = None

-- after a message of the session that makes nothing
abbrev pub heard_of : ℕ → Option SessionId → Heard → Heard
heard_of moment None heard = heard
heard_of moment (Some s) heard = heard_again s.client moment heard

-- how long a client may be silent, in milliseconds
abbrev pub lease : ℕ
lease = 60000

-- the first client, in byte order, that has a session open
abbrev pub first_client : Heard → Option ClientId
first_client [] = None
first_client (h ∷ more) = Some h.0

-- the first client, in byte order, that was last heard of more than that before the moment
abbrev pub late_client : ℕ → Heard → Option ClientId
late_client moment [] = None
late_client moment (h ∷ more) = if nat_lt (h.1 + lease) moment then Some h.0 else late_client moment more
