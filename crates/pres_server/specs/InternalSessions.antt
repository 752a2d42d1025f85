-- Where a client stands, as plain data, and how an entry changes it.
use Rattle.std.specs.Prelude.{◌≡◌, ◌<◌, ◌≤◌, ℕ, ◌+◌, max, true, All, map, Option, Some, None, List, [], length}
use Rattle.std.specs.Option.{option_map}
use Rattle.std.specs.BTreeMap.{get}
use Rattle.pres_tree.specs.declared.scalar.Scalar.{Scalar}
use Rattle.pres_tree.specs.Rows.{Rows}
use Rattle.pres_write.specs.declared.basic.Basic.{Basic}
use Rattle.pres_ids.specs.declared.id.SessionId.{SessionId}
use Rattle.pres_ids.specs.declared.id.Stamp.{Stamp}
use Rattle.pres_ids.specs.Ids.{client_cmp, stamp_of}
use Rattle.pres_ids.specs.Numbers.{greatest_number}
use Rattle.pres_plan.specs.declared.plan.Plan.{Plan}
use Rattle.pres_plan.specs.declared.row.PlanRow.{PlanRow}
use Rattle.pres_plan.specs.Plans.{most_rows, due}
use Rattle.pres_session.specs.LiveSessions.{LiveState, opened}
use Rattle.pres_log.specs.declared.entry.Entry.{Entry}
use Rattle.pres_log.specs.declared.entry.Entry.TheVariants as entry
use Rattle.pres_server.specs.declared.client_sessions.ClientSessions.{ClientSessions}
use Rattle.pres_server.specs.ServerStates.{Heard}
use Rattle.pres_server.specs.InternalParts.{LivePart, plan_after, comes_after}

-- an open session with its plan
abbrev pub Session : Type 0
Session = LiveState Plan

-- the stamp of a client's last session: of the open one, or of the one that is gone
abbrev pub last_stamp : Option Session → Option Stamp → Option Stamp
last_stamp None last = last
last_stamp (Some session) last = Some session.stamp

-- the number of the next message to it
abbrev pub next_number : Option Session → Option ℕ
next_number live = option_map (λ session. session.sent + 1) live

-- how many messages were sent to it
abbrev pub sent_to : Option Session → Option ℕ
sent_to live = option_map (λ session. session.sent) live

-- a session after one message more to it
abbrev pub sent_one : Option Session → Option Session
sent_one live = option_map (λ session. record { stamp = session.stamp; count = session.count; sent = session.sent + 1; heard = session.heard; plan = session.plan }) live

-- when the client was heard of last, where a session of it is open
abbrev pub moment_at : Option Session → Option ℕ
moment_at live = option_map (λ session. session.heard) live

-- its stamp
abbrev pub stamp_at : Option Session → Option Stamp
stamp_at live = option_map (λ session. session.stamp) live

-- what answers and checks need of it
abbrev pub live_part : Session → LivePart
live_part session = record { stamp = session.stamp; count = session.count; plan = session.plan }

-- a session after a message of its client that was accepted at the moment and answered, and leaves this plan
abbrev pub answered : ℕ → List PlanRow → Session → Session
answered moment plan session = record { stamp = session.stamp; count = session.count + 1; sent = session.sent + 1; heard = max session.heard moment; plan = plan }

abbrev pub answered_at : ℕ → Option Session → Option Session
answered_at moment live = option_map (λ session. answered moment session.plan session) live

-- heard of at the moment
abbrev pub heard_at : ℕ → Option Session → Option Session
heard_at moment live = option_map (λ session. record { stamp = session.stamp; count = session.count; sent = session.sent; heard = max session.heard moment; plan = session.plan }) live

-- a session whose client counts as heard of at the moment
abbrev pub heard_only : ℕ → Session → Session
heard_only moment session = record { stamp = session.stamp; count = session.count; sent = session.sent; heard = moment; plan = session.plan }

-- a session that begins
abbrev pub began : Stamp → ℕ → Session
began stamp moment = opened stamp moment []

-- the client's open session after an entry of its own
abbrev pub live_after : ℕ → Entry → Option Session → Option Session
live_after moment (entry.Open s) live = Some (began (stamp_of s) moment)
live_after moment (entry.Ended s q why rows) live = None
live_after moment e live = option_map (λ session. answered moment (plan_after e session.plan) session) live

-- the stamp of its last session, where that is gone
abbrev pub gone_after : Entry → Option Session → Option Stamp → Option Stamp
gone_after (entry.Open s) live last = None
gone_after (entry.Ended s q why rows) live last = last_stamp live last
gone_after _ live last = last

-- a session is open that has a number left for a message each way
abbrev pub HasRoom : Option Session → Type 0
HasRoom (Some session) = (session.count < greatest_number) × (session.sent < greatest_number)
HasRoom None = ⊥

-- a session is open that has a number left for a message to it
abbrev pub MaySend : Option Session → Type 0
MaySend (Some session) = session.sent < greatest_number
MaySend None = ⊥

-- the session's next message is q, which leaves what the entry adds
pub record MayLeave (session : Session) (q : ℕ) (e : Entry) : Type 0 where
  pub later : All (λ row. row.q < q) session.plan
  pub few : length (plan_after e session.plan) ≤ most_rows

abbrev pub MayLeaveAt : Option Session → ℕ → Entry → Type 0
MayLeaveAt None q e = ⊥
MayLeaveAt (Some session) q e = MayLeave session q e

-- these rows are due at the session's end
abbrev pub AreDueAt : Option Session → List Basic → Type 0
AreDueAt None rows = ⊥
AreDueAt (Some session) rows = (tree : Rows Scalar) × (moment : ℕ) × (rows ≡ due tree moment session.plan)

-- when the client of each open session was heard of last, in byte order of clients
abbrev pub heard_of_all : ClientSessions → Heard
heard_of_all places = map (λ e. (e.0, e.1.heard)) places.live.entries

-- how many sessions are open
abbrev pub open_count : ClientSessions → ℕ
open_count places = length places.live.entries

-- no session of the client is open, and this one is newer than the last one
pub record MayOpen (places : ClientSessions) (s : SessionId) : Type 0 where
  pub nobody : get client_cmp places.live s.client ≡ None
  pub newer : comes_after (get client_cmp places.gone s.client) (stamp_of s) ≡ true
