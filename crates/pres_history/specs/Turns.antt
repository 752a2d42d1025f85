-- One turn of the server: what an input does to the log, as a function of the log, the input and the moment that
-- is handed in.
use Rattle.std.specs.Prelude.{ℕ, ◌+◌, ◌-◌, ◌^◌, min, max, List, [], ◌∷◌, ◌++◌, map, length, Some, None, if◌then◌else◌, nat_lt, nat_le, ◌==◌, unwrap_or, Option}
use Rattle.pres_tree.specs.Paths.{Path}
use Rattle.pres_write.specs.Moments as moments
use Rattle.pres_write.specs.Unconditionals.{puts_of}
use Rattle.pres_ids.specs.declared.id.SessionId.{SessionId}
use Rattle.pres_ids.specs.declared.id.Why.{Why}
use Rattle.pres_ids.specs.declared.id.Why.TheVariants as why
use Rattle.pres_wire.specs.declared.up.Up.{Up}
use Rattle.pres_wire.specs.declared.up.Up.TheVariants as up
use Rattle.pres_ids.specs.Ids.{ClientId, stamp_of}
use Rattle.pres_retry.specs.Verdicts.{verdict}
use Rattle.pres_log.specs.declared.entry.Entry.{Entry}
use Rattle.pres_log.specs.declared.entry.Entry.TheVariants as entry
use Rattle.pres_log.specs.declared.fault.Fault.TheVariants as fault
use Rattle.pres_log.specs.Logs.{Log, last_moment, tree, entries, number}
use Rattle.pres_log.specs.declared.entry.Batch.{Batch}
use Rattle.pres_server.specs.declared.input.Input.{Input}
use Rattle.pres_server.specs.declared.input.Input.TheVariants as input
use Rattle.pres_server.specs.ServerStates.{heard_from, heard_of, heard_after_all, late_client}
use Rattle.pres_server.specs.Turns.{Decision, refused, quiet, makes, within_rows, within_paths, op_by}
use Rattle.pres_history.specs.Sessions.{is_open, is_newest, open_sessions, open_sessions_of, last_of, count}
use Rattle.pres_history.specs.Outcomes.{rows_for}
use Rattle.pres_history.specs.SessionPlans.{plan, due_at}
use Rattle.pres_history.specs.Listening.{listened}
use Rattle.pres_history.specs.ServerStates.{ServerState}

-- ---- what a message asks for: entries, nothing, or a refusal

-- the moment that counts: within range, and never before an earlier one
abbrev pub moment_of : Log → ℕ → ℕ
moment_of log now = max (min now moments.last_moment) (last_moment log)

-- the end of a session, with what is due
abbrev pub end_of : List Entry → ℕ → Option ℕ → Why → SessionId → Entry
end_of before moment q why s = entry.Ended s q why (due_at before moment s)

-- the opening of a session, after the ends of those of its client that are open
abbrev pub opening : List Entry → ℕ → SessionId → Decision
opening before moment s = makes (map (end_of before moment None why.Superseded) (open_sessions_of s.client before) ++ entry.Open s ∷ [])

-- the end of a session where it is open
abbrev pub ends_if_open : List Entry → ℕ → Why → SessionId → Decision
ends_if_open before moment why s = if is_open s before then makes (end_of before moment None why s ∷ []) else quiet

-- the end of the first of these sessions, where there is one
abbrev pub ends_first : List Entry → ℕ → Why → List SessionId → Decision
ends_first before moment why [] = quiet
ends_first before moment why (s ∷ more) = makes (end_of before moment None why s ∷ [])

-- the end of the client's open session, where there is such a client
abbrev pub ends_late : List Entry → ℕ → Option ClientId → Decision
ends_late before moment None = quiet
ends_late before moment (Some c) = ends_first before moment why.Lease (open_sessions_of c before)

-- a repeated message is passed over, and a gap refused
abbrev pub in_order : List Entry → SessionId → ℕ → Decision → Decision
in_order before s q accepted =
    let last = count s before in
    if nat_le q last then quiet else (if q == last + 1 then accepted else refused fault.Order)

abbrev pub if_open : List Entry → SessionId → Decision → Decision
if_open before s said = if is_open s before then said else refused fault.Session

-- a Hello opens its session, and ends the one of its client that is open
abbrev pub hello : List Entry → ℕ → SessionId → Decision
hello before moment s =
    if is_newest s before
    then opening before moment s
    else refused (fault.Old (unwrap_or (last_of s.client before) (stamp_of s)))

-- an action of message q is left, or denied where its session would then have too many rows
abbrev pub leaves : List Entry → Entry → SessionId → ℕ → Decision
leaves before e s q = within_rows (length (plan s (before ++ e ∷ []))) e s q

-- the session listens to the path by message q, or is denied where it would then listen to too many
abbrev pub listens : List Entry → SessionId → ℕ → Path → Decision
listens before s q path = within_paths (length (listened s (before ++ entry.On s q path ∷ []))) s q path

abbrev pub message : List Entry → ℕ → Up → Decision
message before moment (up.Hello s) = hello before moment s
message before moment (up.Op s q n op) = if_open before s (in_order before s q (op_by (verdict n (rows_for s.client before)) (tree before) moment s q n op))
message before moment (up.Left s q op) = if_open before s (in_order before s q (leaves before (entry.Left s q (puts_of op)) s q))
message before moment (up.Cancel s q path) = if_open before s (in_order before s q (leaves before (entry.Cancelled s q path) s q))
message before moment (up.Bye s q) = if_open before s (in_order before s q (makes (end_of before moment (Some q) why.Bye s ∷ [])))
message before moment (up.Beat s) = if_open before s quiet
message before moment (up.On s q path) = if_open before s (in_order before s q (listens before s q path))
message before moment (up.Off s q path) = if_open before s (in_order before s q (makes (entry.Off s q path ∷ [])))

-- refused where no number would be left for the ends, or where there would be more than 1,024 sessions
abbrev pub limited : List Entry → Decision → Decision
limited before (makes es) =
    let all = before ++ es in
    let count = length (open_sessions all) in
    if nat_lt (2 ^ 52 - 1) (length all + count) then refused fault.Spent else (if nat_lt 1024 count then refused fault.Full else makes es)
limited before other = other

-- ---- a turn

-- what an input asks for
abbrev pub wanted : ServerState → ℕ → Input → Decision
wanted state moment (input.Up m) = message (entries state.log) moment m
wanted state moment (input.Lost s) = ends_if_open (entries state.log) moment why.Lost s
wanted state moment (input.Slow s) = ends_if_open (entries state.log) moment why.Slow s
wanted state moment (input.Restart c) = ends_first (entries state.log) moment why.Restart (open_sessions_of c (entries state.log))
wanted state moment input.Tick = ends_late (entries state.log) moment (late_client moment state.heard)

abbrev pub turn : ServerState → Input → ℕ → Decision
turn state input now = limited (entries state.log) (wanted state (moment_of state.log now) input)

abbrev pub batch_of : Log → ℕ → List Entry → Batch
batch_of log moment es = record { first = number log + 1; moment = moment; entries = es }

-- the log after a turn whose batch, if there is one, is committed
abbrev pub log_after : Log → ℕ → Decision → Log
log_after log moment (makes es) = log ++ batch_of log moment es ∷ []
log_after log moment other = log

-- the server after a turn that makes nothing
abbrev pub state_heard : ServerState → ℕ → Input → ServerState
state_heard state moment input = record { log = state.log; heard = heard_of moment (heard_from input) state.heard }

-- the server after the commit
abbrev pub state_after : ServerState → ℕ → List Entry → ServerState
state_after state moment es = record { log = state.log ++ batch_of state.log moment es ∷ []; heard = heard_after_all moment es state.heard }
