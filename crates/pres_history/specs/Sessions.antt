-- Sessions, computed from the entries of the log. That a client has one session at a time, and how sessions are
-- numbered, is ours: Firebase doesn't say how its server distinguishes a client's connections.
use Rattle.std.specs.Prelude.{ℕ, Bool, false, ◌&&◌, not, List, map, length, Option, Some, None}
use Rattle.std.specs.List.{list_any, list_all, filter, filter_map, after_first, last_or}
use Rattle.std.specs.Option.{option_map}
use Rattle.pres_tree.specs.Paths.{sorted_by}
use Rattle.pres_ids.specs.declared.id.Stamp.{Stamp}
use Rattle.pres_ids.specs.declared.id.SessionId.{SessionId}
use Rattle.pres_ids.specs.Ids.{ClientId, client_cmp, same_client, same_session, stamp_of, is_earlier}
use Rattle.pres_log.specs.declared.entry.Entry.{Entry}
use Rattle.pres_log.specs.declared.entry.Entry.TheVariants as entry
use Rattle.pres_server.specs.Sessions.{session_of}

abbrev pub opened_by : Entry → Option SessionId
opened_by (entry.Open s) = Some s
opened_by _ = None

abbrev pub opens : SessionId → Entry → Bool
opens s (entry.Open t) = same_session s t
opens s _ = false

abbrev pub ends : SessionId → Entry → Bool
ends s (entry.Ended t q why rows) = same_session s t
ends s _ = false

-- opened, and not ended
abbrev pub is_open : SessionId → List Entry → Bool
is_open s entries = list_any (opens s) entries && not (list_any (ends s) entries)

-- the entries after the one that opened s
abbrev pub since_open : SessionId → List Entry → List Entry
since_open s entries = after_first (opens s) entries

-- those of s itself
abbrev pub own : SessionId → List Entry → List Entry
own s entries = filter (λ e. same_session s (session_of e)) (since_open s entries)

-- how many there are, which is the last q
abbrev pub count : SessionId → List Entry → ℕ
count s entries = length (own s entries)

-- the sessions in the order in which they were opened
abbrev pub opened : List Entry → List SessionId
opened entries = filter_map opened_by entries

-- those of a client
abbrev pub sessions_of : ClientId → List Entry → List SessionId
sessions_of client entries = filter (λ s. same_client client s.client) (opened entries)

-- the open sessions with their clients, in byte order of clients, of which each has at most one
abbrev pub open_entries : List Entry → List (ClientId × SessionId)
open_entries entries = sorted_by client_cmp (map (λ s. (s.client, s)) (filter (λ s. is_open s entries) (opened entries)))

abbrev pub open_sessions : List Entry → List SessionId
open_sessions entries = map (λ e. e.1) (open_entries entries)

abbrev pub open_sessions_of : ClientId → List Entry → List SessionId
open_sessions_of client entries = filter (λ s. is_open s entries) (sessions_of client entries)

-- whether a session of the client is open
abbrev pub has_open : ClientId → List Entry → Bool
has_open client entries = list_any (λ s. is_open s entries) (sessions_of client entries)

-- s comes after each session of its client
abbrev pub is_newest : SessionId → List Entry → Bool
is_newest s entries = list_all (λ t. is_earlier (stamp_of t) (stamp_of s)) (sessions_of s.client entries)

-- the stamp of the last session of a client
abbrev pub last_of : ClientId → List Entry → Option Stamp
last_of client entries = option_map stamp_of (last_or None (sessions_of client entries))
