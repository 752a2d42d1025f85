-- The sum of a log: what a server knows of it, as plain data. What its next batches and their answers depend on is all here.
use Rattle.std.specs.Prelude.{ℕ, ◌+◌, Bool, not, List, [], ◌∷◌, map, fold, Option, Some, None, is_some, if◌then◌else◌}
use Rattle.std.specs.Option.{option_map}
use Rattle.std.specs.FinMap.Entries.{find, put, where_key}
use Rattle.pres_tree.specs.declared.scalar.Scalar.{Scalar}
use Rattle.pres_tree.specs.Paths.{Path}
use Rattle.pres_tree.specs.Rows.{Rows}
use Rattle.pres_write.specs.Basics.{applied}
use Rattle.pres_ids.specs.declared.id.Stamp.{Stamp}
use Rattle.pres_ids.specs.declared.id.SessionId.{SessionId}
use Rattle.pres_ids.specs.Ids.{ClientId, client_cmp, same_client, stamp_of}
use Rattle.pres_retry.specs.Tables.{Table, rows_of}
use Rattle.pres_plan.specs.declared.row.PlanRow.{PlanRow}
use Rattle.pres_fan.specs.declared.listeners.Listener.{Listener}
use Rattle.pres_fan.specs.Listeners.{paths_of, touched}
use Rattle.pres_log.specs.declared.entry.Batch.{Batch}
use Rattle.pres_log.specs.declared.entry.Entry.{Entry}
use Rattle.pres_log.specs.declared.entry.Entry.TheVariants as entry
use Rattle.pres_log.specs.Logs.{Log, writes_of}
use Rattle.pres_server.specs.Sessions.{session_of}
use Rattle.pres_server.specs.InternalParts.{LivePart, Part, plan_after, is_live, count_in}
use Rattle.pres_server.specs.InternalIndex.{retry_after, listeners_after}
use Rattle.pres_server.specs.InternalPushes.{TouchedSession}

-- an open session: its stamp, how many of its messages were accepted, how many were sent to it, and what it leaves for
-- its end
pub record OpenSession : Type 0 where
  pub stamp : Stamp
  pub count : ℕ
  pub sent : ℕ
  pub plan : List PlanRow

-- the open sessions by client
abbrev pub OpenSessions : Type 0
OpenSessions = List (ClientId × OpenSession)

pub record Sum : Type 0 where
  -- how many batches there are
  pub batches : ℕ
  -- the greatest moment
  pub moment : ℕ
  -- how many entries there are
  pub number : ℕ
  pub tree : Rows Scalar
  -- the kept answers
  pub rows : Table
  -- the stamp of the last session of each client that had one and has none open
  pub gone : List (ClientId × Stamp)
  pub sessions : OpenSessions
  pub listeners : List Listener

-- the sum of the log without batches
abbrev pub nothing : Sum
nothing = record { batches = 0; moment = 0; number = 0; tree = []; rows = []; gone = []; sessions = []; listeners = [] }

-- ---- what a sum says

-- the stamp of a client's last session: of the open one, or of the one that is gone
abbrev pub last_by : Option OpenSession → Option Stamp → Option Stamp
last_by None last = last
last_by (Some session) last = Some session.stamp

abbrev pub live_of : OpenSession → LivePart
live_of session = record { stamp = session.stamp; count = session.count; plan = session.plan }

abbrev pub part_by : Option OpenSession → Option Stamp → Table → ClientId → Part
part_by session gone rows client = record { last = last_by session gone; rows = rows_of client rows; live = option_map live_of session }

-- what it says of a client
abbrev pub part_in : Sum → ClientId → Part
part_in sum client = part_by (find client_cmp client sum.sessions) (find client_cmp client sum.gone) sum.rows client

-- the session is its client's open one
abbrev pub is_open_in : SessionId → Sum → Bool
is_open_in session sum = is_live (part_in sum session.client).live (stamp_of session)

-- how many messages of the session were accepted, where it is its client's open one
abbrev pub accepted_in : SessionId → Sum → Option ℕ
accepted_in session sum = count_in (part_in sum session.client).live (stamp_of session)

-- a session of the client is open
abbrev pub has_open_in : ClientId → Sum → Bool
has_open_in client sum = is_some (find client_cmp client sum.sessions)

-- the stamp of the client's open session
abbrev pub open_stamp_in : ClientId → Sum → Option Stamp
open_stamp_in client sum = option_map (λ session. session.stamp) (find client_cmp client sum.sessions)

-- the paths that a session listens to
abbrev pub paths_in : Sum → SessionId → List Path
paths_in sum session = paths_of session sum.listeners

-- how many messages were sent to the open session of a client
abbrev pub sent_by : ClientId → OpenSessions → Option ℕ
sent_by client sessions = option_map (λ session. session.sent) (find client_cmp client sessions)

-- ---- one entry more

-- the entries, with the client's value changed
abbrev pub changed : {X : Type 0} → ClientId → (X → X) → List (ClientId × X) → List (ClientId × X)
changed client change entries = map (λ e. (e.0, if same_client client e.0 then change e.1 else e.1)) entries

-- a session after one message more to it
abbrev pub sent_more : OpenSession → OpenSession
sent_more session = record session { sent = session.sent + 1 }

-- after a Push to the session that is reached
abbrev pub pushed : OpenSessions → TouchedSession → OpenSessions
pushed sessions reached = changed reached.0.client sent_more sessions

-- once the writes of the entry are carried out, and each session that they touch is sent a Push
abbrev pub carried : Entry → Sum → Sum
carried e sum = record sum { tree = applied sum.tree (writes_of e); sessions = fold pushed sum.sessions (touched (writes_of e) sum.listeners) }

-- a session that begins
abbrev pub began : Stamp → OpenSession
began stamp = record { stamp = stamp; count = 0; sent = 0; plan = [] }

-- a session after an entry of its own that answers it
abbrev pub answered : Entry → OpenSession → OpenSession
answered e session = record { stamp = session.stamp; count = session.count + 1; sent = session.sent + 1; plan = plan_after e session.plan }

abbrev pub sessions_after : Entry → OpenSessions → OpenSessions
sessions_after (entry.Open s) sessions = put client_cmp s.client (began (stamp_of s)) sessions
sessions_after (entry.Ended s q why rows) sessions = where_key client_cmp (λ client. not (same_client s.client client)) sessions
sessions_after e sessions = changed (session_of e).client (answered e) sessions

abbrev pub gone_after : Entry → List (ClientId × Stamp) → List (ClientId × Stamp)
gone_after (entry.Open s) gone = where_key client_cmp (λ client. not (same_client s.client client)) gone
gone_after (entry.Ended s q why rows) gone = put client_cmp s.client (stamp_of s) gone
gone_after _ gone = gone

-- then what the entry says of its own client
abbrev pub entered : Entry → Sum → Sum
entered e sum = record sum {
  number = sum.number + 1;
  rows = retry_after (sum.number + 1) e sum.rows;
  gone = gone_after e sum.gone;
  sessions = sessions_after e sum.sessions;
  listeners = listeners_after e sum.listeners;
}

abbrev pub sum_after : Entry → Sum → Sum
sum_after e sum = entered e (carried e sum)

abbrev pub sum_after_all : List Entry → Sum → Sum
sum_after_all [] sum = sum
sum_after_all (e ∷ later) sum = sum_after_all later (sum_after e sum)

-- ---- one batch more

abbrev pub sum_with : Sum → Batch → Sum
sum_with sum batch = record (sum_after_all batch.entries sum) { batches = sum.batches + 1; moment = batch.moment }

abbrev pub sum_from : Sum → Log → Sum
sum_from sum [] = sum
sum_from sum (batch ∷ later) = sum_from (sum_with sum batch) later

-- the sum of a whole log
abbrev pub sum_of : Log → Sum
sum_of log = sum_from nothing log
