-- What is known of each client: plain data, changed by one entry, and what an input asks for by it.
use Rattle.std.specs.Prelude.{ℕ, ◌+◌, ◌-◌, Bool, true, List, [], ◌∷◌, ◌++◌, ◌<◌, All, map, length, Option, Some, None, slice_get, ◌^◌, false, ◌&&◌, if◌then◌else◌, nat_lt, nat_le, ◌==◌, unwrap_or, is_some, Result, Ok, Err}
use Rattle.pres_write.specs.Outcomes.{kept_of}
use Rattle.pres_ids.specs.declared.id.Stamp.{Stamp}
use Rattle.pres_ids.specs.declared.id.SessionId.{SessionId}
use Rattle.pres_wire.specs.declared.down.Down.{Down}
use Rattle.pres_wire.specs.declared.down.Down.TheVariants.{Welcome, Reply, Armed, Snap, OffDone, Denied, Gone}
use Rattle.pres_ids.specs.Ids.{ClientId, stamp_of, is_earlier}
use Rattle.pres_retry.specs.declared.table.Row.{Row}
use Rattle.pres_log.specs.declared.entry.Entry.{Entry}
use Rattle.pres_log.specs.declared.entry.Entry.TheVariants as entry
use Rattle.pres_fan.specs.Listeners.{add_path}
use Rattle.pres_tree.specs.declared.scalar.Scalar.{Scalar}
use Rattle.pres_tree.specs.Paths.{Path}
use Rattle.pres_tree.specs.Rows.{Rows, value_at}
use Rattle.pres_ids.specs.declared.id.Why.{Why}
use Rattle.pres_ids.specs.declared.id.Why.TheVariants as why
use Rattle.pres_wire.specs.declared.up.Up.{Up}
use Rattle.pres_wire.specs.declared.up.Up.TheVariants as up
use Rattle.pres_wire.specs.Messages.{session_in}
use Rattle.pres_retry.specs.Verdicts.{verdict}
use Rattle.pres_plan.specs.declared.row.PlanRow.{PlanRow}
use Rattle.pres_plan.specs.Plans.{puts, cancels, plan_of, due}
use Rattle.pres_write.specs.Unconditionals.{puts_of}
use Rattle.pres_log.specs.declared.fault.Fault.{Fault}
use Rattle.pres_log.specs.declared.fault.Fault.TheVariants as fault
use Rattle.pres_server.specs.Answering.{Unnumbered}
use Rattle.pres_server.specs.declared.input.Input.{Input}
use Rattle.pres_server.specs.declared.input.Input.TheVariants as input
use Rattle.pres_server.specs.ServerStates.{Heard, late_client}
use Rattle.pres_server.specs.Turns.{Decision, refused, quiet, makes, within_rows, within_paths, op_by}

-- of an open session: its stamp, its last q, and what it leaves for its end
pub record LivePart : Type 0 where
  pub stamp : Stamp
  pub count : ℕ
  pub plan : List PlanRow

-- of a client: the stamp of its last session, the outcomes of its writes, and its open session
pub record Part : Type 0 where
  pub last : Option Stamp
  pub rows : List Row
  pub live : Option LivePart

-- what it leaves after an entry of its own
abbrev pub plan_after : Entry → List PlanRow → List PlanRow
plan_after (entry.Left s q places) rows = plan_of (rows ++ puts q places)
plan_after (entry.Cancelled s q path) rows = plan_of (rows ++ cancels q path)
plan_after _ rows = rows

-- how many sessions are open after an entry
abbrev pub open_step : Entry → ℕ → ℕ
open_step (entry.Open s) n = n + 1
open_step (entry.Ended s q why rows) n = n - 1
open_step _ n = n

-- the next message to a session to which this many were sent
abbrev pub message_next : Option ℕ → Unnumbered → List Down
message_next None m = []
message_next (Some sent) m = m (sent + 1) ∷ []

abbrev pub reply_next : SessionId → ℕ → ℕ → ℕ → Option ℕ → Option Row → List Down
reply_next s z q n sent None = []
reply_next s z q n sent (Some row) = message_next sent (λ r. Reply s r z q n row.done row.kept)

-- what entry number z answers to its own session, by the rows of its client, how many messages were sent to the
-- session, and the tree after the entry
abbrev pub answer_by : ℕ → Entry → List Row → Option ℕ → Rows Scalar → List Down
answer_by z (entry.Open s) rows sent tree = Welcome s z (length rows) ∷ []
answer_by z (entry.Op s q n op outcome) rows sent tree = message_next sent (λ r. Reply s r z q n z (kept_of outcome))
answer_by z (entry.Again s q n) rows sent tree = reply_next s z q n sent (slice_get rows (n - 1))
answer_by z (entry.Left s q puts) rows sent tree = message_next sent (λ r. Armed s r z q)
answer_by z (entry.Cancelled s q path) rows sent tree = message_next sent (λ r. Armed s r z q)
answer_by z (entry.Denied s q why) rows sent tree = message_next sent (λ r. Denied s r z q why)
answer_by z (entry.On s q path) rows sent tree = message_next sent (λ r. Snap s r z q path (value_at path tree))
answer_by z (entry.Off s q path) rows sent tree = message_next sent (λ r. OffDone s r z q)
answer_by z (entry.Ended s q why rows_due) rows sent tree = message_next sent (λ r. Gone s r z why)

abbrev pub comes_after : Option Stamp → Stamp → Bool
comes_after None t = true
comes_after (Some s) t = is_earlier s t

-- the client's session with the stamp
abbrev pub session_with : ClientId → Stamp → SessionId
session_with c stamp = record { client = c; incarnation = stamp.incarnation; attempt = stamp.attempt }

abbrev pub listed : ClientId → Option LivePart → List SessionId
listed c None = []
listed c (Some l) = session_with c l.stamp ∷ []

-- each row was asked for by a message that was accepted
abbrev pub IsAsked : Option LivePart → Type 0
IsAsked None = Unit {0}
IsAsked (Some l) = All (λ row. row.q < l.count + 1) l.plan

-- ---- what an input asks for

abbrev pub same_stamp : Stamp → Stamp → Bool
same_stamp s t = s.incarnation == t.incarnation && s.attempt == t.attempt

-- the open session has the stamp
abbrev pub is_live : Option LivePart → Stamp → Bool
is_live None t = false
is_live (Some l) t = same_stamp t l.stamp

-- how many messages of the open session with the stamp were accepted
abbrev pub count_in : Option LivePart → Stamp → Option ℕ
count_in None t = None
count_in (Some l) t = if same_stamp t l.stamp then Some l.count else None

abbrev pub said_by : Option LivePart → SessionId → ℕ → Decision → Decision
said_by None s q accepted = refused fault.Session
said_by (Some l) s q accepted =
    if same_stamp (stamp_of s) l.stamp
    then (if nat_le q l.count then quiet else (if q == l.count + 1 then accepted else refused fault.Order))
    else refused fault.Session

-- what the open session leaves
abbrev pub plan_in : Option LivePart → List PlanRow
plan_in None = []
plan_in (Some l) = l.plan

-- the end of the open session, with what is due
abbrev pub end_by : Option LivePart → Rows Scalar → ℕ → Option ℕ → Why → SessionId → Entry
end_by live tree moment q why s = entry.Ended s q why (due tree moment (plan_in live))

abbrev pub hello_by : Part → Rows Scalar → ℕ → SessionId → Decision
hello_by p tree moment s =
    if comes_after p.last (stamp_of s)
    then makes (map (end_by p.live tree moment None why.Superseded) (listed s.client p.live) ++ entry.Open s ∷ [])
    else refused (fault.Old (unwrap_or p.last (stamp_of s)))

-- an action of message q is left, or denied where there would be too many rows
abbrev pub leaves_by : Option LivePart → Entry → SessionId → ℕ → Decision
leaves_by live e s q = within_rows (length (plan_after e (plan_in live))) e s q

-- a session that listens to these paths listens to one more, or is denied where there would be too many
abbrev pub listens_by : List Path → SessionId → ℕ → Path → Decision
listens_by paths s q path = within_paths (length (add_path path paths)) s q path

-- what a message asks for, by the part of its client and the paths that its session listens to
abbrev pub message_by : Part → List Path → Rows Scalar → ℕ → Up → Decision
message_by p paths tree moment (up.Hello s) = hello_by p tree moment s
message_by p paths tree moment (up.Op s q n op) = said_by p.live s q (op_by (verdict n p.rows) tree moment s q n op)
message_by p paths tree moment (up.Left s q op) = said_by p.live s q (leaves_by p.live (entry.Left s q (puts_of op)) s q)
message_by p paths tree moment (up.Cancel s q path) = said_by p.live s q (leaves_by p.live (entry.Cancelled s q path) s q)
message_by p paths tree moment (up.On s q path) = said_by p.live s q (listens_by paths s q path)
message_by p paths tree moment (up.Off s q path) = said_by p.live s q (makes (entry.Off s q path ∷ []))
message_by p paths tree moment (up.Bye s q) = said_by p.live s q (makes (end_by p.live tree moment (Some q) why.Bye s ∷ []))
message_by p paths tree moment (up.Beat s) = if is_live p.live (stamp_of s) then quiet else refused fault.Session

abbrev pub ends_live : Option LivePart → Rows Scalar → ℕ → Why → SessionId → Decision
ends_live live tree moment why s = if is_live live (stamp_of s) then makes (end_by live tree moment None why s ∷ []) else quiet

-- the end of the client's open session, where it has one
abbrev pub ends_of : Option LivePart → Rows Scalar → ℕ → Why → ClientId → Decision
ends_of None tree moment why c = quiet
ends_of (Some l) tree moment why c = makes (end_by (Some l) tree moment None why (session_with c l.stamp) ∷ [])

abbrev pub ends_late_by : (ClientId → Part) → Rows Scalar → ℕ → Option ClientId → Decision
ends_late_by part tree moment None = quiet
ends_late_by part tree moment (Some c) = ends_of (part c).live tree moment why.Lease c

-- what an input asks for, by the part of each client, what each session listens to, and when each was heard of last
abbrev pub wanted_by : (ClientId → Part) → (SessionId → List Path) → Heard → Rows Scalar → ℕ → Input → Decision
wanted_by part paths heard tree moment (input.Up m) = message_by (part (session_in m).client) (paths (session_in m)) tree moment m
wanted_by part paths heard tree moment (input.Lost s) = ends_live (part s.client).live tree moment why.Lost s
wanted_by part paths heard tree moment (input.Slow s) = ends_live (part s.client).live tree moment why.Slow s
wanted_by part paths heard tree moment (input.Restart c) = ends_of (part c).live tree moment why.Restart c
wanted_by part paths heard tree moment input.Tick = ends_late_by part tree moment (late_client moment heard)

abbrev pub open_steps : List Entry → ℕ → ℕ
open_steps [] n = n
open_steps (e ∷ es) n = open_steps es (open_step e n)

-- refused where no number would be left for the ends, or where there would be more than 1,024 sessions
abbrev pub within : ℕ → ℕ → Decision → Decision
within number count decision =
    if nat_lt (2 ^ 52 - 1) (number + count) then refused fault.Spent else (if nat_lt 1024 count then refused fault.Full else decision)

-- what is made, where it is within the limits, given the numbers of entries and of open sessions
abbrev pub limited_by : ℕ → ℕ → Decision → Decision
limited_by number count (makes es) = within (number + length es) (open_steps es count) (makes es)
limited_by number count other = other

-- what a check of the code says: nothing against the decision, or a refusal
abbrev pub checked : Result (Unit {0}) Fault → Decision → Decision
checked (Ok _) decision = decision
checked (Err f) decision = refused f

-- the open session of a message that is the next one; one that was accepted before is passed over
abbrev pub said : {S : Type 0} → Result (Option S) Fault → Decision → Decision
said (Ok next) accepted = if is_some next then accepted else quiet
said (Err f) accepted = refused f
