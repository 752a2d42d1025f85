-- What a client notes, call by call and message by message.
use Rattle.std.proofs.Common.{refl, sym, ◌∙◌, ap, subst, ◌≡◌, ℕ, ◌+◌, nat_lt, length, List, [], ◌∷◌, ◌++◌, drop, fold, Bool, true, false, cond, ◌&&◌, if◌then◌else◌, true≢false, Option, Some, None, append-nil}
use Rattle.std.specs.Option.{is_none, is_some}
use Rattle.std.specs.List.{All, filter_map, cons_option}
use Rattle.std.proofs.lemmas.List.Elements.{All-nil, All-cons, All-append, All-head, All-tail}
use Rattle.pres_tree.specs.declared.scalar.Scalar.{Scalar}
use Rattle.pres_tree.specs.Paths.{Path, same_path}
use Rattle.pres_tree.specs.Rows.{Rows, rows_in}
use Rattle.pres_tree.proofs.PathOrder.{path_same, path_itself}
use Rattle.pres_write.specs.declared.outcome.Kept.{Kept}
use Rattle.pres_write.specs.declared.outcome.Kept.TheVariants.{Wrote, Stale}
use Rattle.pres_write.specs.Transactions.{Comparison}
use Rattle.pres_ids.specs.declared.id.SessionId.{SessionId}
use Rattle.pres_ids.specs.Ids.{same_session}
use Rattle.pres_wire.specs.declared.down.Code.{Code}
use Rattle.pres_wire.specs.declared.down.Code.TheVariants as code
use Rattle.pres_wire.specs.declared.down.Limit.{Limit}
use Rattle.pres_wire.specs.declared.down.Limit.TheVariants as limit
use Rattle.pres_wire.specs.declared.down.Down.TheVariants as down
use Rattle.pres_wire.specs.declared.up.Up.TheVariants as up
use Rattle.pres_wire.specs.declared.values.PathValue.{PathValue}
use Rattle.pres_wire.specs.Values.{Rising}
use Rattle.pres_wire.specs.Views.{value_in}
use Rattle.pres_client_state.specs.declared.ask.Ask.{Ask}
use Rattle.pres_client_state.specs.declared.notice.Notice.{Notice}
use Rattle.pres_client_state.specs.declared.notice.Notice.TheVariants as notice
use Rattle.pres_client_state.specs.declared.queued.Queued.{Queued}
use Rattle.pres_client_state.specs.declared.queued.Queued.TheVariants as queued
use Rattle.pres_client_state.specs.declared.watch.Watch.{Watch}
use Rattle.pres_client_state.specs.Watches.{Watches, watch_of, is_live, watched_at}
use Rattle.pres_client_state.specs.Queues.{farewell, lost_action, faulted}
use Rattle.pres_client_state.specs.Asks.{ask_of}
use Rattle.pres_client.specs.declared.call.Answer.{Answer}
use Rattle.pres_client.specs.declared.call.Answer.TheVariants as answer
use Rattle.pres_client.specs.declared.call.Call.{Call}
use Rattle.pres_client.specs.declared.call.Call.TheVariants as call
use Rattle.pres_client.specs.Clients.{ClientState, is_online, is_opening, session_of, most_tries, view}
use Rattle.pres_client.specs.declared.client.Phase.TheVariants as phase
use Rattle.pres_client.specs.Calls.{refusal, after_call, end_session, drop_session, after_go_offline, after_answer, after_listen, after_unlisten, enqueue, note, known}
use Rattle.pres_client.specs.ReceivedMessages as receiving
use Rattle.pres_client.specs.ReceivedMessages.{is_next, fits, fits_write, bring, unfit, is_last, first_listen, first_action, first_is_off, after_receive, after_welcome, after_fault, own_fault, ends_session, is_fit, judge_reply, write_outcome, try_outcome, ask_again, answered, write_answered, action_answered, judge_denied, listen_denied, listen_answered, judge_off_done, after_push, armed, denied, tell_live, news_of}
use Rattle.pres_client.specs.Notices.{IsShown, Notes, CallsNote, MessagesNote}
use Rattle.pres_client.proofs.Found.{told_there, push_there, rises_apart, rest_rises}

-- ---- notices

-- none
quiet : (ns : List Notice) (d : ClientState) → d.notices ≡ ns → Notes ns d
quiet ns d e = record { noted = []; added = e ∙ sym (append-nil ns); shown = All-nil (IsShown d) }

-- one
one : (ns : List Notice) (d : ClientState) (n : Notice) → d.notices ≡ ns ++ n ∷ [] → IsShown d n → Notes ns d
one ns d n e h = record { noted = n ∷ []; added = e; shown = All-cons (IsShown d) n [] h (All-nil (IsShown d)) }

choose : (ns : List Notice) (b : Bool) (x y : ClientState) → Notes ns x → Notes ns y → Notes ns (if b then x else y)
choose ns true x y h k = h
choose ns false x y h k = k

-- ---- the end of a session

lost : (d : ClientState) (ms : List Queued) → All (IsShown d) (filter_map lost_action ms)
lost d [] = All-nil (IsShown d)
lost d (queued.Write k o ∷ ms) = lost d ms
lost d (queued.Try k attempt t ∷ ms) = lost d ms
lost d (queued.Left k o ∷ ms) = All-cons (IsShown d) (notice.ActionLost k) (filter_map lost_action ms) tt (lost d ms)
lost d (queued.Cancel k p ∷ ms) = All-cons (IsShown d) (notice.ActionLost k) (filter_map lost_action ms) tt (lost d ms)
lost d (queued.On k p ∷ ms) = lost d ms
lost d (queued.Off p ∷ ms) = lost d ms

faults : (d : ClientState) (f : Option Code) → All (IsShown d) (faulted f)
faults d None = All-nil (IsShown d)
faults d (Some reason) = All-cons (IsShown d) (notice.Faulted reason) [] tt (All-nil (IsShown d))

ended : (c : ClientState) (f : Option Code) → Notes c.notices (end_session c f)
ended c f = let d = end_session c f in record {
  noted = farewell f c.queue;
  added = refl;
  shown = All-cons (IsShown d) (notice.Connected false) (filter_map lost_action c.queue ++ faulted f) tt (All-append (IsShown d) (filter_map lost_action c.queue) (faulted f) (lost d c.queue) (faults d f));
}

over : (c : ClientState) → Notes c.notices (end_session c (Some code.Bad))
over c = ended c (Some code.Bad)

-- ---- calls

after_one_answer : (c : ClientState) (k : ℕ) (given : Answer) (o : Option Ask) → Notes c.notices (after_answer c k given o)
after_one_answer c k given None = quiet c.notices c refl
after_one_answer c k answer.Abort (Some a) = one c.notices (after_answer c k answer.Abort (Some a)) (notice.Aborted k) refl tt
after_one_answer c k (answer.New new) (Some a) = quiet c.notices (after_answer c k (answer.New new) (Some a)) refl

same_notices : (ns : List Notice) (b : Bool) (x y : ClientState) → x.notices ≡ ns → y.notices ≡ ns → (if b then x else y).notices ≡ ns
same_notices ns true x y h k = h
same_notices ns false x y h k = k

listens : (c : ClientState) (p : Path) (o : Option Watch) → Notes c.notices (after_listen c p o)
listens c p (Some w) = quiet c.notices (after_listen c p (Some w)) refl
listens c p None = quiet c.notices (after_listen c p None) (same_notices c.notices (is_online c.phase) (enqueue c (queued.On (c.requests + 1) p)) c refl refl)

unlistens : (c : ClientState) (p : Path) (o : Option Watch) → Notes c.notices (after_unlisten c p o)
unlistens c p None = quiet c.notices c refl
unlistens c p (Some w) = quiet c.notices (after_unlisten c p (Some w)) (same_notices c.notices (is_online c.phase) (enqueue c (queued.Off p)) c refl refl)

drops : (c : ClientState) → Notes c.notices (drop_session c)
drops c = choose c.notices (is_online c.phase) (end_session c None) (record c { phase = phase.Off }) (ended c None) (quiet c.notices (record c { phase = phase.Off }) refl)

-- the Bye of a session that is left notes nothing
leaves : (c : ClientState) → Notes c.notices (after_go_offline c)
leaves c = by (is_online c.phase) where
  d : ClientState
  d = end_session c None

  bye : ClientState
  bye = record d { sends = c.sends ++ up.Bye c.session (c.heard + length c.queue + 1) ∷ [] }

  by : (b : Bool) → Notes c.notices (if b then bye else record c { phase = phase.Off })
  by true = record { noted = farewell None c.queue; added = refl; shown = All-cons (IsShown bye) (notice.Connected false) (filter_map lost_action c.queue ++ []) tt (All-append (IsShown bye) (filter_map lost_action c.queue) [] (lost bye c.queue) (All-nil (IsShown bye))) }
  by false = quiet c.notices (record c { phase = phase.Off }) refl

called : (c : ClientState) (k : Call) → Notes c.notices (after_call c k)
called c (call.Set p draft) = quiet c.notices (after_call c (call.Set p draft)) refl
called c (call.Update p places) = quiet c.notices (after_call c (call.Update p places)) refl
called c (call.Remove p) = quiet c.notices (after_call c (call.Remove p)) refl
called c (call.Transact p) = one c.notices (after_call c (call.Transact p)) (notice.Ask (c.requests + 1) 1 (known p c)) refl tt
called c (call.Answer k given) = after_one_answer c k given (ask_of k c.asks)
called c (call.OnDisconnectSet p draft) = quiet c.notices (after_call c (call.OnDisconnectSet p draft)) refl
called c (call.OnDisconnectUpdate p places) = quiet c.notices (after_call c (call.OnDisconnectUpdate p places)) refl
called c (call.OnDisconnectRemove p) = quiet c.notices (after_call c (call.OnDisconnectRemove p)) refl
called c (call.OnDisconnectCancel p) = quiet c.notices (after_call c (call.OnDisconnectCancel p)) refl
called c (call.Listen p) = listens c p (watch_of p c.watches)
called c (call.Unlisten p) = unlistens c p (watch_of p c.watches)
called c call.GoOnline = quiet c.notices (after_call c call.GoOnline) (same_notices c.notices (is_some (session_of c)) c _ refl refl)
called c call.GoOffline = leaves c
called c call.Lost = drops c
called c call.Beat = quiet c.notices (after_call c call.Beat) refl
called c call.Resend = quiet c.notices (after_call c call.Resend) refl

pub calls_note : CallsNote
calls_note c k = choose c.notices (is_none (refusal c k)) (after_call c k) c (called c k) (quiet c.notices c refl)

-- ---- answers

asks_again : (c : ClientState) (k attempt : ℕ) (p : Path) (v : Rows Scalar) → Notes c.notices (ask_again c k attempt p v)
asks_again c k attempt p v = choose c.notices (nat_lt attempt most_tries) _ (note c (notice.TooManyTries k)) (one c.notices _ (notice.Ask k (attempt + 1) v) refl tt) (one c.notices _ (notice.TooManyTries k) refl tt)

writes : (c : ClientState) (k : ℕ) (rest : List Queued) (done : ℕ) (out : Kept) → Notes c.notices (write_outcome c k rest done out)
writes c k rest done Wrote = one c.notices (write_outcome c k rest done Wrote) (notice.Done k done) refl tt
writes c k rest done (Stale held) = over c

tries : (c : ClientState) (k attempt : ℕ) (t : Comparison) (rest : List Queued) (done : ℕ) (out : Kept) → Notes c.notices (try_outcome c k attempt t rest done out)
tries c k attempt t rest done Wrote = one c.notices (try_outcome c k attempt t rest done Wrote) (notice.Done k done) refl tt
tries c k attempt t rest done (Stale held) = asks_again (write_answered c rest) k attempt t.path (rows_in held)

replies : (c : ClientState) (ms : List Queued) (q n done : ℕ) (out : Kept) → Notes c.notices (judge_reply c ms q n done out)
replies c (queued.Write k o ∷ rest) q n done out = choose c.notices (fits_write c q n) (write_outcome c k rest done out) (unfit c) (writes c k rest done out) (over c)
replies c (queued.Try k attempt t ∷ rest) q n done out = choose c.notices (fits_write c q n) (try_outcome c k attempt t rest done out) (unfit c) (tries c k attempt t rest done out) (over c)
replies c (queued.Left k o ∷ rest) q n done out = over c
replies c (queued.Cancel k p ∷ rest) q n done out = over c
replies c (queued.On k p ∷ rest) q n done out = over c
replies c (queued.Off p ∷ rest) q n done out = over c
replies c [] q n done out = over c

acts : (c : ClientState) (rest : List Queued) (q : ℕ) (news : ℕ → Notice) (o : Option ℕ) → ((d : ClientState) (k : ℕ) → IsShown d (news k)) → Notes c.notices (action_answered c rest q news o)
acts c rest q news None h = over c
acts c rest q news (Some k) h = let d = note (answered c rest) (news k) in choose c.notices (fits c q) d (unfit c) (one c.notices d (news k) refl (h d k)) (over c)

denies : (c : ClientState) (rest : List Queued) (q : ℕ) (o : Option (ℕ × Path)) → Notes c.notices (listen_denied c rest q o)
denies c rest q None = over c
denies c rest q (Some f) = choose c.notices (fits c q) _ (unfit c) (one c.notices _ (notice.Denied f.0 limit.Listens) refl tt) (over c)

limits : (c : ClientState) (q : ℕ) (why : Limit) → Notes c.notices (judge_denied c c.queue q why)
limits c q limit.Plan = acts c (drop 1 c.queue) q denied (first_action c.queue) (λ d k. tt)
limits c q limit.Listens = denies c (drop 1 c.queue) q (first_listen c.queue)

-- ---- values

tells : (c : ClientState) (p : Path) (v : Rows Scalar) (o : Option Watch) → watch_of p c.watches ≡ o → Notes c.notices (receiving.after_value c p c.seen v o)
tells c p v None e = quiet c.notices c refl
tells c p v (Some w) e =
    let d = receiving.after_value c p c.seen v (Some w) in
    one c.notices d (notice.Value p c.seen v) refl (ap (watched_at c.seen) (told_there p v c.watches w e))

snaps : (c : ClientState) (rest : List Queued) (q : ℕ) (p : Path) (v : Rows Scalar) (o : Option (ℕ × Path)) → Notes c.notices (listen_answered c rest c.seen q p v o)
snaps c rest q p v None = over c
snaps c rest q p v (Some f) =
    let d = answered c rest in
    choose c.notices (fits c q && same_path f.1 p) (if is_last p rest then receiving.after_value d p c.seen v (watch_of p c.watches) else d) (unfit c)
    (choose c.notices (is_last p rest) (receiving.after_value d p c.seen v (watch_of p c.watches)) d (tells d p v (watch_of p c.watches) refl) (quiet c.notices d refl))
    (over c)

-- the value of each path stands once
abbrev StandsIn : List PathValue → PathValue → Type 0
StandsIn vs u = value_in u.path vs ≡ Some u.value

stands_behind : (v : PathValue) (vs : List PathValue) → value_in v.path vs ≡ None → (u : PathValue) → StandsIn vs u → StandsIn (v ∷ vs) u
stands_behind v vs none u h = by (same_path u.path v.path) refl where
  by : (b : Bool) → same_path u.path v.path ≡ b → cond b (Some v.value) (value_in u.path vs) ≡ Some u.value
  by true e = absurd (some_is_none (sym h ∙ ap (λ p. value_in p vs) (path_same u.path v.path e) ∙ none)) where
    some_is_none : Some u.value ≡ None → ⊥
    some_is_none x = subst (λ (o : Option (Rows Scalar)). elim o as (λ _. Type 0) [ None ↦ ⊥ | Some y ↦ Unit {0} ]) x tt
  by false e = h

all_stand : (vs : List PathValue) → Rising vs → All (StandsIn vs) vs
all_stand [] r = All-nil (StandsIn [])
all_stand (v ∷ vs) r =
    let none = rises_apart v.path vs r in
    let rest = all_stand vs (rest_rises v vs r) in
    All-cons (StandsIn (v ∷ vs)) v vs (ap (λ b. cond b (Some v.value) (value_in v.path vs)) (path_itself v.path)) (λ k d lt. stands_behind v vs none _ (rest k d lt))

pushed_one : (ws : Watches) (z : ℕ) (all : List PathValue) (d : ClientState) → d.seen ≡ z → d.watches ≡ fold tell_live ws all → Rising all → (u : PathValue) → StandsIn all u → (us : List PathValue) → All (IsShown d) (filter_map (news_of ws z) us) → All (IsShown d) (filter_map (news_of ws z) (u ∷ us))
pushed_one ws z all d seen told r u stands us rest = by (is_live (watch_of u.path ws)) refl where
  shown_one : (o : Option Watch) → watch_of u.path ws ≡ o → is_live o ≡ true → view u.path d ≡ Some (z, u.value)
  shown_one None e l = absurd (true≢false (sym l))
  shown_one (Some w) e l =
      ap (λ n. watched_at n (watch_of u.path d.watches)) seen
      ∙ ap (λ x. watched_at z (watch_of u.path x)) told
      ∙ ap (watched_at z) (push_there u.path ws all w u.value r stands e l)

  by : (b : Bool) → is_live (watch_of u.path ws) ≡ b → All (IsShown d) (cons_option (if b then Some (notice.Value u.path z u.value) else None) (filter_map (news_of ws z) us))
  by true l = All-cons (IsShown d) (notice.Value u.path z u.value) (filter_map (news_of ws z) us) (shown_one (watch_of u.path ws) refl l) rest
  by false l = rest

pushed : (ws : Watches) (z : ℕ) (all : List PathValue) (d : ClientState) → d.seen ≡ z → d.watches ≡ fold tell_live ws all → Rising all → (us : List PathValue) → All (StandsIn all) us → All (IsShown d) (filter_map (news_of ws z) us)
pushed ws z all d seen told r [] h = All-nil (IsShown d)
pushed ws z all d seen told r (u ∷ us) h =
    pushed_one ws z all d seen told r u (All-head (StandsIn all) u us h) us (pushed ws z all d seen told r us (All-tail (StandsIn all) u us h))

pushes : (c : ClientState) (vs : List PathValue) → Rising vs → Notes c.notices (after_push c c.seen vs)
pushes c vs r = record {
  noted = filter_map (news_of c.watches c.seen) vs;
  added = refl;
  shown = pushed c.watches c.seen vs (after_push c c.seen vs) refl refl r vs (all_stand vs r);
}

-- ---- the other messages

faulted_own : (c : ClientState) (reason : Code) → Notes c.notices (own_fault c reason)
faulted_own c reason =
    choose c.notices (is_opening c.phase) _ _ (one c.notices _ (notice.Faulted reason) refl tt)
    (choose c.notices (is_online c.phase) _ c
    (choose c.notices (ends_session reason) (end_session c (Some reason)) (note c (notice.Faulted reason)) (ended c (Some reason)) (one c.notices _ (notice.Faulted reason) refl tt))
    (quiet c.notices c refl))

faulted_by : (c : ClientState) (s : Option SessionId) (reason : Code) → Notes c.notices (after_fault c s reason)
faulted_by c None reason = one c.notices (note c (notice.Faulted reason)) (notice.Faulted reason) refl tt
faulted_by c (Some s) reason = choose c.notices (same_session s c.session) (own_fault c reason) c (faulted_own c reason) (quiet c.notices c refl)

welcomes : (c : ClientState) (ops : ℕ) → Notes c.notices (after_welcome c ops)
welcomes c ops = choose c.notices (is_fit c ops) _ _ (one c.notices _ (notice.Connected true) refl tt) (one c.notices _ (notice.Faulted code.Bad) refl tt)

-- a message that is taken, or passed over
takes : (c : ClientState) (s : SessionId) (r : ℕ) (d : ClientState) → Notes c.notices d → Notes c.notices (if is_next c s r then d else c)
takes c s r d h = choose c.notices (is_next c s r) d c h (quiet c.notices c refl)

pub messages_note : MessagesNote
messages_note c (down.Welcome s z ops) i = choose c.notices (is_opening c.phase && same_session s c.session) (after_welcome c ops) c (welcomes c ops) (quiet c.notices c refl)
messages_note c (down.Reply s r z q n done out) i = takes c s r _ (replies (bring c z) c.queue q n done out)
messages_note c (down.Gone s r z why) i = takes c s r _ (ended (bring c z) None)
messages_note c (down.Fault session reason) i = faulted_by c session reason
messages_note c (down.Armed s r z q) i = takes c s r _ (acts (bring c z) (drop 1 c.queue) q armed (first_action c.queue) (λ d k. tt))
messages_note c (down.Denied s r z q why) i = takes c s r _ (limits (bring c z) q why)
messages_note c (down.Snap s r z q p v) i = takes c s r _ (snaps (bring c z) (drop 1 c.queue) q p v (first_listen c.queue))
messages_note c (down.Push s r z vs) i = takes c s r _ (pushes (bring c z) vs i)
messages_note c (down.OffDone s r z q) i = takes c s r _ (choose c.notices (fits (bring c z) q && first_is_off c.queue) (answered (bring c z) (drop 1 c.queue)) _ (quiet c.notices _ refl) (over (bring c z)))
