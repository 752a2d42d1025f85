-- What a session is sent: the stream of its messages, computed from the log, and the answers to a committed batch. The
-- numbers of messages are ours.
use Rattle.std.specs.Prelude.{ℕ, ◌+◌, ◌-◌, Bool, true, false, not, List, [], ◌∷◌, ◌++◌, map, filter, length, Option, Some, None, if◌then◌else◌, slice_get, drop}
use Rattle.std.specs.List.{before_first, flat_map}
use Rattle.pres_tree.specs.Paths.{Path}
use Rattle.pres_tree.specs.Rows.{value_at}
use Rattle.pres_write.specs.Outcomes.{kept_of}
use Rattle.pres_ids.specs.declared.id.SessionId.{SessionId}
use Rattle.pres_wire.specs.declared.down.Down.{Down}
use Rattle.pres_wire.specs.declared.down.Down.TheVariants.{Welcome, Reply, Armed, Snap, Push, OffDone, Denied, Gone}
use Rattle.pres_ids.specs.Ids.{same_session}
use Rattle.pres_retry.specs.declared.table.Row.{Row}
use Rattle.pres_log.specs.declared.entry.Entry.{Entry}
use Rattle.pres_log.specs.declared.entry.Entry.TheVariants as entry
use Rattle.pres_log.specs.Logs.{tree}
use Rattle.pres_server.specs.Sessions.{session_of}
use Rattle.pres_server.specs.Answering.{Unnumbered, shown}
use Rattle.pres_history.specs.Sessions.{opens, ends, since_open, open_sessions}
use Rattle.pres_history.specs.Outcomes.{ops, rows_for}
use Rattle.pres_history.specs.Listening.{touched}

-- one Push with what stands at the paths after the entries, where there is such a path
abbrev pub push_of : SessionId → List Entry → List Path → List Unnumbered
push_of s now [] = []
push_of s now (p ∷ paths) = (λ r. Push s r (length now) (map (shown (tree now)) (p ∷ paths))) ∷ []

abbrev pub repeated_reply : SessionId → ℕ → ℕ → ℕ → Option Row → List Unnumbered
repeated_reply s z q n None = []
repeated_reply s z q n (Some row) = (λ r. Reply s r z q n row.done row.kept) ∷ []

-- the answer to an entry's own session, given the entries up to this one
abbrev pub own_answer : List Entry → Entry → List Unnumbered
own_answer now (entry.Open s) = []
own_answer now (entry.Op s q n op outcome) = let z = length now in (λ r. Reply s r z q n z (kept_of outcome)) ∷ []
own_answer now (entry.Again s q n) = repeated_reply s (length now) q n (slice_get (rows_for s.client now) (n - 1))
own_answer now (entry.Left s q puts) = (λ r. Armed s r (length now) q) ∷ []
own_answer now (entry.Cancelled s q path) = (λ r. Armed s r (length now) q) ∷ []
own_answer now (entry.Denied s q why) = (λ r. Denied s r (length now) q why) ∷ []
own_answer now (entry.On s q path) = (λ r. Snap s r (length now) q path (value_at path (tree now))) ∷ []
own_answer now (entry.Off s q path) = (λ r. OffDone s r (length now) q) ∷ []
own_answer now (entry.Ended s q why rows) = (λ r. Gone s r (length now) why) ∷ []

-- what one entry, the last of these, adds to the stream of s: a Push of what it touches, then the answer where it is
-- an entry of s
abbrev pub sent_for : SessionId → List Entry → Entry → List Unnumbered
sent_for s now e = push_of s now (touched s now e) ++ (if same_session s (session_of e) then own_answer now e else [])

-- what the later entries add, up to the end of s
abbrev pub sent_from : SessionId → List Entry → List Entry → List Unnumbered
sent_from s before [] = []
sent_from s before (e ∷ later) =
    let now = before ++ e ∷ [] in
    sent_for s now e ++ (if ends s e then [] else sent_from s now later)

abbrev pub numbered_from : ℕ → List Unnumbered → List Down
numbered_from r [] = []
numbered_from r (m ∷ ms) = m r ∷ numbered_from (r + 1) ms

-- the messages of s after its Welcome, the k-th with r = k
abbrev pub stream : SessionId → List Entry → List Down
stream s entries = numbered_from 1 (sent_from s (before_first (opens s) entries ++ entry.Open s ∷ []) (since_open s entries))

-- the Welcome of the session that the last of these entries opens
abbrev pub welcome : SessionId → List Entry → Down
welcome s now = Welcome s (length now) (ops s.client now)

-- ---- what a committed batch answers

-- the messages that an entry adds to the stream of s
abbrev pub added : SessionId → List Entry → Entry → List Down
added s before e = drop (length (stream s before)) (stream s (before ++ e ∷ []))

abbrev pub is_push : Down → Bool
is_push (Push s r z values) = true
is_push _ = false

-- the answer to the entry's own session
abbrev pub own_added : List Entry → Entry → List Down
own_added before (entry.Open s) = welcome s (before ++ entry.Open s ∷ []) ∷ []
own_added before e = filter (λ m. not (is_push m)) (added (session_of e) before e)

-- the Pushes to the open sessions, in byte order of their clients, and then the own answer
abbrev pub answers_to : List Entry → Entry → List Down
answers_to before e = flat_map (λ s. filter is_push (added s before e)) (open_sessions before) ++ own_added before e

-- those of a batch, entry by entry
abbrev pub answers : List Entry → List Entry → List Down
answers before [] = []
answers before (e ∷ later) = answers_to before e ++ answers (before ++ e ∷ []) later
