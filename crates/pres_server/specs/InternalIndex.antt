-- What the index of a log says, as plain data, and how an entry changes it.
use Rattle.std.specs.Prelude.{◌≡◌, ◌<◌, ◌≤◌, ℕ, ◌+◌, ◌-◌, ◌^◌, Option, Some, None, List, ◌++◌, length, slice_get, if◌then◌else◌, IsSome, Result}
use Rattle.std.specs.Option.{option_map}
use Rattle.std.specs.BTreeMap.{get, Updates}
use Rattle.pres_tree.specs.Paths.{Path}
use Rattle.pres_write.specs.declared.op.Op.{Op}
use Rattle.pres_write.specs.Basics.{BasicWrite, applied}
use Rattle.pres_write.specs.Outcomes.{kept_of}
use Rattle.pres_ids.specs.declared.id.SessionId.{SessionId}
use Rattle.pres_wire.specs.declared.down.Down.{Down}
use Rattle.pres_ids.specs.Ids.{ClientId, client_cmp, same_client}
use Rattle.pres_session.specs.declared.gone.Gone.{Gone}
use Rattle.pres_retry.specs.declared.table.Row.{Row}
use Rattle.pres_retry.specs.Tables.{Table, row, rows_of, recorded}
use Rattle.pres_retry.specs.Verdicts.{verdict, again}
use Rattle.pres_log.specs.declared.entry.Entry.{Entry}
use Rattle.pres_log.specs.declared.entry.Entry.TheVariants as entry
use Rattle.pres_log.specs.declared.fault.Fault.{Fault}
use Rattle.pres_log.specs.Logs.{writes_of}
use Rattle.pres_fan.specs.declared.listeners.Listener.{Listener}
use Rattle.pres_fan.specs.Listeners.{most_paths, paths_of, with_listener, without, without_session, touched}
use Rattle.pres_server.specs.declared.index.Index.{Index}
use Rattle.pres_server.specs.declared.index.LogPosition.{LogPosition}
use Rattle.pres_server.specs.declared.input.Input.{Input}
use Rattle.pres_server.specs.declared.turn.TurnTime.{TurnTime}
use Rattle.pres_server.specs.declared.turn.TurnEffect.{TurnEffect}
use Rattle.pres_server.specs.Sessions.{session_of}
use Rattle.pres_server.specs.ServerStates.{Heard, heard_last, heard_from}
use Rattle.pres_server.specs.Turns.{Decision, Decides, op_by}
use Rattle.pres_server.specs.InternalParts.{LivePart, Part, limited_by, wanted_by, answer_by}
use Rattle.pres_server.specs.InternalPushes.{after_pushes, pushes, MayPushAll}
use Rattle.pres_server.specs.InternalSessions.{Session, last_stamp, moment_at, sent_to, live_part, live_after, heard_at, heard_of_all, HasRoom, MayLeaveAt, AreDueAt, open_count, MayOpen}

-- the client's open session
abbrev pub session_at : Index → ClientId → Option Session
session_at index client = get client_cmp index.places.live client

-- the stamp of its last session, where that is gone
abbrev pub gone_at : Index → ClientId → Option Gone
gone_at index client = get client_cmp index.places.gone client

-- what the index says of a client
abbrev pub part_at : Index → ClientId → Part
part_at index client = record { last = last_stamp (session_at index client) (gone_at index client); rows = rows_of client index.retry; live = option_map live_part (session_at index client) }

-- what it says of the open session of a session's client
abbrev pub live_at : Index → SessionId → Option LivePart
live_at index s = (part_at index s.client).live

-- how many messages were sent to the client's open session
abbrev pub sent_at : Index → ClientId → Option ℕ
sent_at index client = sent_to (session_at index client)

-- the paths that the session listens to
abbrev pub paths_at : Index → SessionId → List Path
paths_at index s = paths_of s index.listeners

-- when the client of each open session was heard of last
abbrev pub heard_in : Index → Heard
heard_in index = heard_of_all index.places

-- the list says of each client when it was heard of last
abbrev pub Tells : Heard → Index → Type 0
Tells heard index = (c : ClientId) → heard_last heard c ≡ moment_at (session_at index c)

-- the kept answers after entry number z
abbrev pub retry_after : ℕ → Entry → Table → Table
retry_after z (entry.Op s q n op outcome) table = recorded s.client n (row z (kept_of outcome)) table
retry_after z _ table = table

-- who listens to what after an entry
abbrev pub listeners_after : Entry → List Listener → List Listener
listeners_after (entry.On s q path) listeners = with_listener s path listeners
listeners_after (entry.Off s q path) listeners = without s path listeners
listeners_after (entry.Ended s q why rows) listeners = without_session s listeners
listeners_after _ listeners = listeners

-- what is made, where it is within the limits; this many entries were made before
abbrev pub limited_on : Index → ℕ → Decision → Decision
limited_on index number decision = limited_by number (open_count index.places) decision

-- what write n of the session's client makes
abbrev pub write_on : Index → ℕ → SessionId → ℕ → ℕ → Op → Decision
write_on index moment s q n op = op_by (verdict n (part_at index s.client).rows) index.tree moment s q n op

-- what an input asks for, within the limits
abbrev pub decision_on : Index → TurnTime → Input → Decision
decision_on index now i = limited_on index now.number (wanted_by (part_at index) (paths_at index) (heard_in index) index.tree now.moment i)

-- the step that an input asks for, or its refusal
abbrev pub DecidesOn : Index → TurnTime → Input → Result TurnEffect Fault → Type 0
DecidesOn index now i result = Decides (heard_from i) (decision_on index now i) result

-- what a turn asks of the index: its numbers are far from the last one, and an open session is counted
pub record Ready (index : Index) (now : TurnTime) : Type 0 where
  pub number : now.number < 2 ^ 53
  pub sessions : open_count index.places < 2 ^ 53
  pub counted : (c : ClientId) → IsSome (part_at index c).live → 0 < open_count index.places

-- what the entry answers to its own session that is made there
abbrev pub answer_on : Index → LogPosition → Entry → List Down
answer_on index made e = answer_by made.number e (part_at index (session_of e).client).rows (sent_at index (session_of e).client) index.tree

-- the index after these writes, and a Push to each session that they touch
pub record Carries (writes : List BasicWrite) (old new : Index) : Type 0 where
  pub live : (c : ClientId) → session_at new c ≡ after_pushes (session_at old) (touched writes old.listeners) c
  pub gone : new.places.gone ≡ old.places.gone
  pub retry : new.retry ≡ old.retry
  pub listeners : new.listeners ≡ old.listeners
  pub tree : new.tree ≡ applied old.tree writes

-- who is gone after an entry
abbrev pub GoneSteps : Index → Index → Entry → Type 0
GoneSteps old new (entry.Open s) = Updates client_cmp old.places.gone new.places.gone s.client None
GoneSteps old new (entry.Ended s q why rows) = Updates client_cmp old.places.gone new.places.gone s.client (last_stamp (session_at old s.client) (gone_at old s.client))
GoneSteps old new _ = new.places.gone ≡ old.places.gone

-- the index after entry number z, made at the moment, whose writes were carried out before
pub record Steps (z moment : ℕ) (old new : Index) (e : Entry) : Type 0 where
  pub live : Updates client_cmp old.places.live new.places.live (session_of e).client (live_after moment e (session_at old (session_of e).client))
  pub gone : GoneSteps old new e
  pub retry : new.retry ≡ retry_after z e old.retry
  pub listeners : new.listeners ≡ listeners_after e old.listeners
  pub tree : new.tree ≡ old.tree

-- the index after an entry that is made there
abbrev pub StepsAt : LogPosition → Index → Index → Entry → Type 0
StepsAt made old new e = Steps made.number made.moment old new e

-- the index after the client was heard of at the moment
pub record Hears (client : ClientId) (moment : ℕ) (old new : Index) : Type 0 where
  pub live : (c : ClientId) → session_at new c ≡ (if same_client client c then heard_at moment (session_at old client) else session_at old c)
  pub gone : new.places.gone ≡ old.places.gone
  pub retry : new.retry ≡ old.retry
  pub listeners : new.listeners ≡ old.listeners
  pub tree : new.tree ≡ old.tree

-- what the code asks of an entry that it takes in, whose writes were carried out: a legal log's next one meets it
abbrev pub MayTake : Index → Entry → Type 0
MayTake index (entry.Open s) = MayOpen index.places s
MayTake index (entry.Op s q n op outcome) = HasRoom (session_at index s.client) × (n ≡ length (rows_of s.client index.retry) + 1)
MayTake index (entry.Again s q n) = HasRoom (session_at index s.client) × (kept : Row) × (verdict n (rows_of s.client index.retry) ≡ again kept) × (slice_get (rows_of s.client index.retry) (n - 1) ≡ Some kept)
MayTake index (entry.Left s q puts) = HasRoom (session_at index s.client) × MayLeaveAt (session_at index s.client) q (entry.Left s q puts)
MayTake index (entry.Cancelled s q path) = HasRoom (session_at index s.client) × MayLeaveAt (session_at index s.client) q (entry.Cancelled s q path)
MayTake index (entry.Denied s q why) = HasRoom (session_at index s.client)
MayTake index (entry.On s q path) = HasRoom (session_at index s.client) × (length (paths_of s (with_listener s path index.listeners)) ≤ most_paths)
MayTake index (entry.Off s q path) = HasRoom (session_at index s.client)
MayTake index (entry.Ended s q why rows) = HasRoom (session_at index s.client) × AreDueAt (session_at index s.client) rows

-- and of its writes
pub record MayCarry (index : Index) (e : Entry) : Type 0 where
  pub writes : MayPushAll (session_at index) (touched (writes_of e) index.listeners)
  pub entry : (next : Index) → Carries (writes_of e) index next → MayTake next e

-- the index after an entry that is made there, and the messages that it adds to those before
pub record TakesEntry (made : LogPosition) (e : Entry) (old new : Index) (before after : List Down) : Type 0 where
  pub between : Index
  pub carried : Carries (writes_of e) old between
  pub steps : StepsAt made between new e
  pub answers : after ≡ before ++ (pushes made.number between.tree (session_at old) (touched (writes_of e) old.listeners) ++ answer_on between made e)
