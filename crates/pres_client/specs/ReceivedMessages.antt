-- What a message does to a client.
use Rattle.std.specs.Prelude.{◌+◌, ◌&&◌, ◌==◌, ℕ, Bool, true, false, not, List, [], ◌∷◌, ◌++◌, length, drop, map, fold, Option, Some, None, if◌then◌else◌, nat_le, nat_lt, unwrap_or}
use Rattle.std.specs.List.{filter_map, list_any}
use Rattle.pres_tree.specs.declared.scalar.Scalar.{Scalar}
use Rattle.pres_tree.specs.Paths.{Path, same_path}
use Rattle.pres_tree.specs.Rows.{Rows, rows_in}
use Rattle.pres_write.specs.declared.outcome.Kept.{Kept}
use Rattle.pres_write.specs.declared.outcome.Kept.TheVariants.{Wrote, Stale}
use Rattle.pres_write.specs.Transactions.{Comparison}
use Rattle.pres_ids.specs.declared.id.SessionId.{SessionId}
use Rattle.pres_wire.specs.declared.down.Code.{Code}
use Rattle.pres_wire.specs.declared.down.Code.TheVariants as code
use Rattle.pres_wire.specs.declared.down.Limit.{Limit}
use Rattle.pres_wire.specs.declared.down.Limit.TheVariants as limit
use Rattle.pres_wire.specs.declared.down.Down.{Down}
use Rattle.pres_wire.specs.declared.down.Down.TheVariants as down
use Rattle.pres_wire.specs.declared.values.PathValue.{PathValue}
use Rattle.pres_ids.specs.Ids.{same_session}
use Rattle.pres_ids.specs.Numbers.{greatest_number}
use Rattle.pres_client_state.specs.Queues.{is_write, is_on, action_of}
use Rattle.pres_client_state.specs.Watches.{Watches, watch_of, without_watch, tell, is_live, on_of}
use Rattle.pres_client_state.specs.Asks.{with_ask}
use Rattle.pres_client.specs.declared.client.Phase.TheVariants as phase
use Rattle.pres_client_state.specs.declared.notice.Notice.{Notice}
use Rattle.pres_client_state.specs.declared.notice.Notice.TheVariants as notice
use Rattle.pres_client_state.specs.declared.queued.Queued.{Queued}
use Rattle.pres_client_state.specs.declared.queued.Queued.TheVariants as queued
use Rattle.pres_client_state.specs.declared.watch.Watch.{Watch}
use Rattle.pres_client.specs.Clients.{ClientState, is_online, is_opening, base_of, outstanding, most_tries}
use Rattle.pres_client.specs.Calls.{note, end_session}

-- ---- which messages are taken

-- the next message of the session's stream
abbrev pub is_next : ClientState → SessionId → ℕ → Bool
is_next c s r = is_online c.phase && (same_session s c.session && (r == c.taken + 1))

-- a message of the stream, with the server's number, is taken
abbrev pub bring : ClientState → ℕ → ClientState
bring c z = record c { taken = c.taken + 1; seen = z }

-- an answer that doesn't fit the oldest message without one ends the session
abbrev pub unfit : ClientState → ClientState
unfit c = end_session c (Some code.Bad)

-- the answer is to the oldest message
abbrev pub fits : ClientState → ℕ → Bool
fits c q = q == c.heard + 1

-- and so is its write
abbrev pub fits_write : ClientState → ℕ → ℕ → Bool
fits_write c q n = fits c q && (n == base_of c + c.answered + 1)

-- whether the oldest message is a write
abbrev pub head_is_write : List Queued → Option Bool
head_is_write [] = None
head_is_write (m ∷ rest) = Some (is_write m)

-- the oldest message has its answer
abbrev pub answered : ClientState → List Queued → ClientState
answered c rest = record c { heard = c.heard + 1; queue = rest }

abbrev pub write_answered : ClientState → List Queued → ClientState
write_answered c rest = let d = answered c rest in record d { answered = c.answered + 1 }

-- ---- answers to writes

-- a plain write is never stale
abbrev pub write_outcome : ClientState → ℕ → List Queued → ℕ → Kept → ClientState
write_outcome c k rest done Wrote = note (write_answered c rest) (notice.Done k done)
write_outcome c k rest done (Stale held) = unfit c

-- a transaction that was overtaken asks again, with the value that was found, 25 times in all
abbrev pub ask_again : ClientState → ℕ → ℕ → Path → Rows Scalar → ClientState
ask_again c k attempt p value =
    if nat_lt attempt most_tries
    then (let d = note c (notice.Ask k (attempt + 1) value) in record d { asks = with_ask k (record { path = p; attempt = attempt + 1; value = value }) c.asks })
    else note c (notice.TooManyTries k)

abbrev pub try_outcome : ClientState → ℕ → ℕ → Comparison → List Queued → ℕ → Kept → ClientState
try_outcome c k attempt t rest done Wrote = note (write_answered c rest) (notice.Done k done)
try_outcome c k attempt t rest done (Stale held) = ask_again (write_answered c rest) k attempt t.path (rows_in held)

abbrev pub judge_reply : ClientState → List Queued → ℕ → ℕ → ℕ → Kept → ClientState
judge_reply c (queued.Write k o ∷ rest) q n done out = if fits_write c q n then write_outcome c k rest done out else unfit c
judge_reply c (queued.Try k attempt t ∷ rest) q n done out = if fits_write c q n then try_outcome c k attempt t rest done out else unfit c
judge_reply c (queued.Left k o ∷ rest) q n done out = unfit c
judge_reply c (queued.Cancel k p ∷ rest) q n done out = unfit c
judge_reply c (queued.On k p ∷ rest) q n done out = unfit c
judge_reply c (queued.Off p ∷ rest) q n done out = unfit c
judge_reply c [] q n done out = unfit c

-- ---- answers to actions for the end of the session, and to cancels

-- the request of the oldest message, if it is such an action
abbrev pub first_action : List Queued → Option ℕ
first_action [] = None
first_action (m ∷ rest) = action_of m

abbrev pub action_answered : ClientState → List Queued → ℕ → (ℕ → Notice) → Option ℕ → ClientState
action_answered c rest q after_value None = unfit c
action_answered c rest q after_value (Some k) = if fits c q then note (answered c rest) (after_value k) else unfit c

abbrev pub judge_action : ClientState → List Queued → ℕ → (ℕ → Notice) → ClientState
judge_action c queue q after_value = action_answered c (drop 1 queue) q after_value (first_action queue)

abbrev pub armed : ℕ → Notice
armed k = notice.Armed k

abbrev pub denied : ℕ → Notice
denied k = notice.Denied k limit.Plan

-- ---- answers to listens

-- no later message listens to the path
abbrev pub is_last : Path → List Queued → Bool
is_last p rest = not (list_any (is_on p) rest)

-- the request and the path of the oldest message, where it listens
abbrev pub listen_of : Queued → Option (ℕ × Path)
listen_of (queued.Write k o) = None
listen_of (queued.Try k attempt t) = None
listen_of (queued.Left k o) = None
listen_of (queued.Cancel k p) = None
listen_of (queued.On k p) = Some (k, p)
listen_of (queued.Off p) = None

abbrev pub first_listen : List Queued → Option (ℕ × Path)
first_listen [] = None
first_listen (m ∷ rest) = listen_of m

-- a denied listen drops the path, where it is the path's last
abbrev pub listen_denied : ClientState → List Queued → ℕ → Option (ℕ × Path) → ClientState
listen_denied c rest q None = unfit c
listen_denied c rest q (Some f) =
    if fits c q
    then (let d = note (answered c rest) (notice.Denied f.0 limit.Listens) in record d { watches = (if is_last f.1 rest then without_watch f.1 c.watches else c.watches) })
    else unfit c

abbrev pub judge_denied : ClientState → List Queued → ℕ → Limit → ClientState
judge_denied c queue q limit.Plan = judge_action c queue q denied
judge_denied c queue q limit.Listens = listen_denied c (drop 1 queue) q (first_listen queue)

-- the value is stored, where the path is listened to
abbrev pub after_value : ClientState → Path → ℕ → Rows Scalar → Option Watch → ClientState
after_value c p z v None = c
after_value c p z v (Some w) = let d = note c (notice.Value p z v) in record d { watches = tell p v c.watches }

-- a Snap that isn't the answer to the path's last listen is passed over
abbrev pub listen_answered : ClientState → List Queued → ℕ → ℕ → Path → Rows Scalar → Option (ℕ × Path) → ClientState
listen_answered c rest z q p v None = unfit c
listen_answered c rest z q p v (Some f) =
    if fits c q && same_path f.1 p
    then (let d = answered c rest in if is_last p rest then after_value d p z v (watch_of p c.watches) else d)
    else unfit c

abbrev pub judge_snap : ClientState → List Queued → ℕ → ℕ → Path → Rows Scalar → ClientState
judge_snap c queue z q p v = listen_answered c (drop 1 queue) z q p v (first_listen queue)

abbrev pub is_off : Queued → Bool
is_off (queued.Write k o) = false
is_off (queued.Try k attempt t) = false
is_off (queued.Left k o) = false
is_off (queued.Cancel k p) = false
is_off (queued.On k p) = false
is_off (queued.Off p) = true

abbrev pub first_is_off : List Queued → Bool
first_is_off [] = false
first_is_off (m ∷ rest) = is_off m

abbrev pub judge_off_done : ClientState → List Queued → ℕ → ClientState
judge_off_done c queue q = if fits c q && first_is_off queue then answered c (drop 1 queue) else unfit c

-- ---- pushes

-- a value that is pushed is passed over until the Snap that answers the last On of its path
abbrev pub tell_live : Watches → PathValue → Watches
tell_live ws v = if is_live (watch_of v.path ws) then tell v.path v.value ws else ws

abbrev pub news_of : Watches → ℕ → PathValue → Option Notice
news_of ws z v = if is_live (watch_of v.path ws) then Some (notice.Value v.path z v.value) else None

abbrev pub after_push : ClientState → ℕ → List PathValue → ClientState
after_push c z values = record c { watches = fold tell_live c.watches values; notices = c.notices ++ filter_map (news_of c.watches z) values }

-- ---- the session's ends

-- the server refused a message
abbrev pub ends_session : Code → Bool
ends_session code.Bad = false
ends_session (code.Old last) = false
ends_session code.Session = true
ends_session code.Order = false
ends_session code.Full = false
ends_session code.Busy = false
ends_session code.Spent = false
ends_session code.Down = false

abbrev pub own_fault : ClientState → Code → ClientState
own_fault c reason =
    if is_opening c.phase then (let d = note c (notice.Faulted reason) in record d { phase = phase.Off })
    else (if is_online c.phase then (if ends_session reason then end_session c (Some reason) else note c (notice.Faulted reason)) else c)

abbrev pub after_fault : ClientState → Option SessionId → Code → ClientState
after_fault c None reason = note c (notice.Faulted reason)
after_fault c (Some s) reason = if same_session s c.session then own_fault c reason else c

-- ---- the Welcome

-- the server's count of the client's writes is one that it can have, and there are numbers for what goes out
abbrev pub is_fit : ClientState → ℕ → Bool
is_fit c ops =
    let base = unwrap_or c.base ops in
    nat_le (base + c.answered) ops && (nat_le ops (base + c.sent) && (nat_le (base + c.made) greatest_number && nat_le (length c.watches + length c.queue) greatest_number))

-- a listen for each path, in path order, goes before the writes without an answer
abbrev pub opened : ClientState → ℕ → ClientState
opened c ops = record c { phase = phase.Online; base = Some (unwrap_or c.base ops); sent = c.made; heard = 0; taken = 0; queue = map on_of c.watches ++ c.queue }

abbrev pub after_welcome : ClientState → ℕ → ClientState
after_welcome c ops =
    if is_fit c ops
    then (let d = opened c ops in let e = note d (notice.Connected true) in record e { sends = c.sends ++ outstanding d })
    else (let d = note c (notice.Faulted code.Bad) in record d { phase = phase.Off })

-- ---- all messages

-- a message for the client now: the Welcome that it waits for, the next one of its session's stream, or a Fault
abbrev pub accepts : ClientState → Down → Bool
accepts c (down.Welcome s z ops) = is_opening c.phase && same_session s c.session
accepts c (down.Reply s r z q n done out) = is_next c s r
accepts c (down.Gone s r z why) = is_next c s r
accepts c (down.Fault session reason) = true
accepts c (down.Armed s r z q) = is_next c s r
accepts c (down.Denied s r z q why) = is_next c s r
accepts c (down.Snap s r z q p v) = is_next c s r
accepts c (down.Push s r z values) = is_next c s r
accepts c (down.OffDone s r z q) = is_next c s r

-- the message is taken, and then judged, or it is passed over
abbrev pub taken : ClientState → SessionId → ℕ → ℕ → (ClientState → ClientState) → ClientState
taken c s r z judge = if is_next c s r then judge (bring c z) else c

abbrev pub after_receive : ClientState → Down → ClientState
after_receive c (down.Welcome s z ops) = if is_opening c.phase && same_session s c.session then after_welcome c ops else c
after_receive c (down.Reply s r z q n done out) = taken c s r z (λ d. judge_reply d c.queue q n done out)
after_receive c (down.Gone s r z why) = taken c s r z (λ d. end_session d None)
after_receive c (down.Fault session reason) = after_fault c session reason
after_receive c (down.Armed s r z q) = taken c s r z (λ d. judge_action d c.queue q armed)
after_receive c (down.Denied s r z q why) = taken c s r z (λ d. judge_denied d c.queue q why)
after_receive c (down.Snap s r z q p v) = taken c s r z (λ d. judge_snap d c.queue z q p v)
after_receive c (down.Push s r z values) = taken c s r z (λ d. after_push d z values)
after_receive c (down.OffDone s r z q) = taken c s r z (λ d. judge_off_done d c.queue q)
