-- What each call does to a client, and why it is refused.
use Rattle.std.specs.Prelude.{◌≡◌, ◌≤◌, ◌+◌, ◌&&◌, ◌||◌, ℕ, Bool, not, List, [], ◌∷◌, ◌++◌, length, filter, Option, Some, None, if◌then◌else◌, nat_le, option_map, unwrap_or}
use Rattle.std.specs.Option.{is_some}
use Rattle.pres_tree.specs.declared.fault.TreeFault.TheVariants.{TooDeep}
use Rattle.pres_tree.specs.declared.scalar.Scalar.{Scalar}
use Rattle.pres_tree.specs.Paths.{Path}
use Rattle.pres_tree.specs.Rows.{Rows}
use Rattle.pres_write.specs.declared.draft.DraftLeaf.{DraftLeaf}
use Rattle.pres_write.specs.declared.fault.WriteFault.{WriteFault}
use Rattle.pres_write.specs.declared.fault.WriteFault.TheVariants.{Tree}
use Rattle.pres_write.specs.declared.op.Op.{Op}
use Rattle.pres_write.specs.declared.op.Op.TheVariants as op
use Rattle.pres_write.specs.declared.unconditional.Unconditional.{Unconditional}
use Rattle.pres_write.specs.declared.unconditional.Unconditional.TheVariants as unconditional
use Rattle.pres_write.specs.Transactions.{comparison}
use Rattle.pres_write.specs.Updates.{update_of, update_fault}
use Rattle.pres_wire.specs.declared.down.Code.{Code}
use Rattle.pres_wire.specs.declared.up.Up.{Up}
use Rattle.pres_wire.specs.declared.up.Up.TheVariants as up
use Rattle.pres_ids.specs.Numbers.{greatest_number}
use Rattle.pres_client_state.specs.declared.ask.Ask.{Ask}
use Rattle.pres_client_state.specs.Queues.{is_write, message, farewell}
use Rattle.pres_client_state.specs.Watches.{watch_of, with_watch, without_watch, fresh, frozen}
use Rattle.pres_client_state.specs.Asks.{ask_of, with_ask, without_ask, is_deep, is_too_deep}
use Rattle.pres_client.specs.declared.call.Answer.{Answer}
use Rattle.pres_client.specs.declared.call.Answer.TheVariants as answer
use Rattle.pres_client.specs.declared.call.Call.{Call}
use Rattle.pres_client.specs.declared.call.Call.TheVariants as call
use Rattle.pres_client.specs.declared.client.Phase.TheVariants as phase
use Rattle.pres_client.specs.declared.fault.ClientFault.{ClientFault}
use Rattle.pres_client.specs.declared.fault.ClientFault.TheVariants.{Memory, Offline, NoSuchRequest, Spent, Write}
use Rattle.pres_client_state.specs.declared.notice.Notice.{Notice}
use Rattle.pres_client_state.specs.declared.notice.Notice.TheVariants as notice
use Rattle.pres_client_state.specs.declared.queued.Queued.{Queued}
use Rattle.pres_client_state.specs.declared.queued.Queued.TheVariants as queued
use Rattle.pres_client_state.specs.declared.watch.Watch.{Watch}
use Rattle.pres_client.specs.Clients.{ClientState, is_online, is_opening, session_of, base_of, outstanding, no_request, no_write, no_message, view, most_sends}

-- ---- steps that calls share

-- a new message as it goes out at once, if the client is Online
abbrev pub sent_now : ClientState → Queued → List Up
sent_now c m = if is_online c.phase then message c.session (c.heard + length c.queue + 1) (base_of c + c.made + 1) m ∷ [] else []

-- one message more
abbrev pub enqueue : ClientState → Queued → ClientState
enqueue c m = record c { queue = c.queue ++ m ∷ []; sends = c.sends ++ sent_now c m }

-- one write more
abbrev pub make_write : ClientState → Queued → ClientState
make_write c m = let d = enqueue c m in record d { made = c.made + 1; sent = (if is_online c.phase then c.made + 1 else c.sent) }

abbrev pub with_request : ClientState → ClientState
with_request c = record c { requests = c.requests + 1 }

abbrev pub note : ClientState → Notice → ClientState
note c n = record c { notices = c.notices ++ n ∷ [] }

-- the session is left: its unanswered writes stay, and what it showed
abbrev pub closed : ClientState → ClientState
closed c = record c { phase = phase.Off; heard = 0; taken = 0; queue = filter is_write c.queue; watches = frozen c.seen c.watches }

-- the session is left
abbrev pub end_session : ClientState → Option Code → ClientState
end_session c fault = let d = closed c in record d { notices = c.notices ++ farewell fault c.queue }

-- the connection is gone
abbrev pub drop_session : ClientState → ClientState
drop_session c = if is_online c.phase then end_session c None else record c { phase = phase.Off }

-- what goes out again
abbrev pub outgoing : ClientState → List Up
outgoing c = if is_online c.phase then outstanding c else (if is_opening c.phase then up.Hello c.session ∷ [] else [])

-- ---- transactions

-- the value that is shown at the path, or null
abbrev pub known : Path → ClientState → Rows Scalar
known p c = value_in (view p c) where
  value_in : Option (ℕ × Rows Scalar) → Rows Scalar
  value_in None = []
  value_in (Some s) = s.1

-- what a transaction is asked with
abbrev pub first_ask : Path → ClientState → Ask
first_ask p c = record { path = p; attempt = 1; value = known p c }

-- the try that the answer makes
abbrev pub try_of : ℕ → Ask → Rows DraftLeaf → Queued
try_of k a new = queued.Try k a.attempt (comparison a.path a.value new)

-- ---- refusals

abbrev pub set_fault : Path → Rows DraftLeaf → Option WriteFault
set_fault p draft = if is_deep p draft then Some (Tree TooDeep) else None

abbrev pub write_refusal : ClientState → Option WriteFault → Option ClientFault
write_refusal c fault = if no_request c || (no_write c || no_message c) then Some Spent else option_map Write fault

abbrev pub action_refusal : ClientState → Option WriteFault → Option ClientFault
action_refusal c fault = if not (is_online c.phase) then Some Offline else (if no_request c || no_message c then Some Spent else option_map Write fault)

abbrev pub try_fault : Ask → Rows DraftLeaf → Option WriteFault
try_fault a new = if is_too_deep a new then Some (Tree TooDeep) else None

abbrev pub answer_refusal : ClientState → Answer → Option Ask → Option ClientFault
answer_refusal c given None = Some NoSuchRequest
answer_refusal c answer.Abort (Some a) = None
answer_refusal c (answer.New new) (Some a) = if no_write c || no_message c then Some Spent else option_map Write (try_fault a new)

abbrev pub spent_if : Bool → Option ClientFault
spent_if b = if b then Some Spent else None

-- why a call is refused, apart from lack of memory, which comes last
abbrev pub refusal : ClientState → Call → Option ClientFault
refusal c (call.Set p draft) = write_refusal c (set_fault p draft)
refusal c (call.Update p places) = write_refusal c (update_fault p places.items)
refusal c (call.Remove p) = write_refusal c None
refusal c (call.Transact p) = spent_if (no_request c)
refusal c (call.Answer k given) = answer_refusal c given (ask_of k c.asks)
refusal c (call.OnDisconnectSet p draft) = action_refusal c (set_fault p draft)
refusal c (call.OnDisconnectUpdate p places) = action_refusal c (update_fault p places.items)
refusal c (call.OnDisconnectRemove p) = action_refusal c None
refusal c (call.OnDisconnectCancel p) = action_refusal c None
refusal c (call.Listen p) = spent_if (no_request c || (not (is_some (watch_of p c.watches)) && no_message c))
refusal c (call.Unlisten p) = spent_if (is_some (watch_of p c.watches) && (is_online c.phase && no_message c))
refusal c call.GoOnline = spent_if (not (is_some (session_of c)) && nat_le greatest_number c.attempts)
refusal c call.GoOffline = spent_if (is_online c.phase && no_message c)
refusal c call.Lost = None
refusal c call.Beat = None
refusal c call.Resend = None

-- ---- the client after a call

abbrev pub after_write : ClientState → Op → ClientState
after_write c o = with_request (make_write c (queued.Write (c.requests + 1) o))

abbrev pub after_action : ClientState → Unconditional → ClientState
after_action c o = with_request (enqueue c (queued.Left (c.requests + 1) o))

abbrev pub after_transact : ClientState → Path → ClientState
after_transact c p =
    let k = c.requests + 1 in
    let d = with_request (note c (notice.Ask k 1 (known p c))) in record d { asks = with_ask k (first_ask p c) c.asks }

abbrev pub after_answer : ClientState → ℕ → Answer → Option Ask → ClientState
after_answer c k given None = c
after_answer c k answer.Abort (Some a) = let d = note c (notice.Aborted k) in record d { asks = without_ask k c.asks }
after_answer c k (answer.New new) (Some a) = let d = make_write c (try_of k a new) in record d { asks = without_ask k c.asks }

-- the path is listened to from now on, for the request
abbrev pub watched : ClientState → Path → ℕ → ClientState
watched c p k = let d = (if is_online c.phase then enqueue c (queued.On k p) else c) in record d { watches = with_watch p (fresh k) c.watches }

-- a path that is listened to already is answered alone
abbrev pub after_listen : ClientState → Path → Option Watch → ClientState
after_listen c p (Some w) = with_request c
after_listen c p None = with_request (watched c p (c.requests + 1))

abbrev pub after_unlisten : ClientState → Path → Option Watch → ClientState
after_unlisten c p None = c
after_unlisten c p (Some w) =
    let d = (if is_online c.phase then enqueue c (queued.Off p) else c) in record d { watches = without_watch p c.watches }

abbrev pub after_go_online : ClientState → ClientState
after_go_online c =
    if is_some (session_of c) then c
    else (let s = record c.session { attempt = c.attempts + 1 } in record c { session = s; attempts = c.attempts + 1; phase = phase.Opening; sends = c.sends ++ up.Hello s ∷ [] })

abbrev pub after_go_offline : ClientState → ClientState
after_go_offline c =
    if is_online c.phase
    then (let d = end_session c None in record d { sends = c.sends ++ up.Bye c.session (c.heard + length c.queue + 1) ∷ [] })
    else record c { phase = phase.Off }

abbrev pub after_beat : ClientState → ClientState
after_beat c = record c { sends = c.sends ++ (if is_online c.phase then up.Beat c.session ∷ [] else []) }

abbrev pub after_call : ClientState → Call → ClientState
after_call c (call.Set p draft) = after_write c (op.Set (p, draft))
after_call c (call.Update p places) = after_write c (op.Update (update_of p places.items))
after_call c (call.Remove p) = after_write c (op.Set (p, []))
after_call c (call.Transact p) = after_transact c p
after_call c (call.Answer k given) = after_answer c k given (ask_of k c.asks)
after_call c (call.OnDisconnectSet p draft) = after_action c (unconditional.Set (p, draft))
after_call c (call.OnDisconnectUpdate p places) = after_action c (unconditional.Update (update_of p places.items))
after_call c (call.OnDisconnectRemove p) = after_action c (unconditional.Set (p, []))
after_call c (call.OnDisconnectCancel p) = with_request (enqueue c (queued.Cancel (c.requests + 1) p))
after_call c (call.Listen p) = after_listen c p (watch_of p c.watches)
after_call c (call.Unlisten p) = after_unlisten c p (watch_of p c.watches)
after_call c call.GoOnline = after_go_online c
after_call c call.GoOffline = after_go_offline c
after_call c call.Lost = drop_session c
after_call c call.Beat = after_beat c
after_call c call.Resend = record c { sends = c.sends ++ outgoing c }

-- the request that a call answers
abbrev pub request_of : ClientState → Call → Option ℕ
request_of c (call.Set p draft) = Some (c.requests + 1)
request_of c (call.Update p places) = Some (c.requests + 1)
request_of c (call.Remove p) = Some (c.requests + 1)
request_of c (call.Transact p) = Some (c.requests + 1)
request_of c (call.Answer k given) = None
request_of c (call.OnDisconnectSet p draft) = Some (c.requests + 1)
request_of c (call.OnDisconnectUpdate p places) = Some (c.requests + 1)
request_of c (call.OnDisconnectRemove p) = Some (c.requests + 1)
request_of c (call.OnDisconnectCancel p) = Some (c.requests + 1)
request_of c (call.Listen p) = Some (c.requests + 1)
request_of c (call.Unlisten p) = None
request_of c call.GoOnline = None
request_of c call.GoOffline = None
request_of c call.Lost = None
request_of c call.Beat = None
request_of c call.Resend = None

-- ---- what calls promise

-- the call is carried out
abbrev pub Does : ClientState → Call → ClientState → Type 0
Does c k d = (refusal c k ≡ None) × (d ≡ after_call c k)

-- and answers the next request
abbrev pub Answers : ClientState → Call → ClientState → ℕ → Type 0
Answers c k d request = (request ≡ c.requests + 1) × Does c k d

-- the call is refused, last of all for lack of memory, and the client is as it was
abbrev pub Refuses : ClientState → Call → ClientState → ClientFault → Type 0
Refuses c k d e = (e ≡ unwrap_or (refusal c k) Memory) × (d ≡ c)

-- no more messages were made than the client had said
abbrev pub IsFew : ClientState → ClientState → Type 0
IsFew c d = length d.sends ≤ length c.sends + most_sends c
