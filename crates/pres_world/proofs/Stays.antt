-- What a client's steps do to its session, and to what its writes are counted from.
use Rattle.std.proofs.Common.{if◌then◌else◌, refl, ◌∙◌, ap, ◌≡◌, ◌+◌, ◌&&◌, ℕ, Bool, true, false, List, [], ◌∷◌, ◌⊎◌, inl, inr, Option, Some, None, true≢false, sym, drop, nat_lt}
use Rattle.std.specs.Option.{is_some}
use Rattle.std.proofs.lemmas.Bool.{and_parts}
use Rattle.pres_ids.specs.declared.id.SessionId.{SessionId}
use Rattle.pres_ids.specs.Ids.{same_session}
use Rattle.pres_tree.specs.Paths.{Path, same_path}
use Rattle.pres_write.specs.declared.outcome.Kept.{Kept}
use Rattle.pres_write.specs.declared.outcome.Kept.TheVariants as kept
use Rattle.pres_wire.specs.declared.down.Code.{Code}
use Rattle.pres_wire.specs.declared.down.Down.{Down}
use Rattle.pres_wire.specs.declared.down.Down.TheVariants as down
use Rattle.pres_wire.specs.declared.down.Limit.{Limit}
use Rattle.pres_wire.specs.declared.down.Limit.TheVariants as limit
use Rattle.pres_client_state.specs.declared.ask.Ask.{Ask}
use Rattle.pres_client_state.specs.declared.queued.Queued.{Queued}
use Rattle.pres_client_state.specs.declared.queued.Queued.TheVariants as queued
use Rattle.pres_client_state.specs.declared.notice.Notice.{Notice}
use Rattle.pres_client_state.specs.declared.watch.Watch.{Watch}
use Rattle.pres_client_state.specs.Watches.{watch_of}
use Rattle.pres_client_state.specs.Asks.{ask_of}
use Rattle.pres_client.specs.declared.call.Answer.{Answer}
use Rattle.pres_client.specs.declared.call.Answer.TheVariants as answer
use Rattle.pres_client.specs.declared.call.Call.{Call}
use Rattle.pres_client.specs.declared.call.Call.TheVariants as call
use Rattle.pres_client.specs.declared.client.Phase.{Phase}
use Rattle.pres_client.specs.declared.client.Phase.TheVariants as phase
use Rattle.pres_client.specs.Clients.{ClientState, is_online, is_opening, session_of, most_tries}
use Rattle.pres_client.specs.Calls.{enqueue, after_answer, after_listen, after_unlisten, after_go_online, after_call}
use Rattle.pres_tree.specs.declared.scalar.Scalar.{Scalar}
use Rattle.pres_tree.specs.Rows.{Rows}
use Rattle.pres_write.specs.Transactions.{Comparison}
use Rattle.pres_client.specs.ReceivedMessages.{write_outcome, try_outcome, is_next, bring, fits, fits_write, answered, armed, judge_reply, judge_denied, action_answered, listen_denied, listen_answered, after_value, is_last, first_action, first_listen, first_is_off, ends_session, own_fault, after_fault, is_fit, after_welcome, after_receive}

-- the session stays, and is open only where it was open or being opened
pub record Stays (c d : ClientState) : Type 0 where
  pub session : d.session ≡ c.session
  pub attempts : d.attempts ≡ c.attempts
  pub online : is_online d.phase ≡ true → (is_online c.phase ≡ true) ⊎ (is_opening c.phase ≡ true)
  pub opening : is_opening d.phase ≡ true → is_opening c.phase ≡ true
  pub base : (is_online d.phase ≡ true → is_online c.phase ≡ true) → d.base ≡ c.base

keeps : (c d : ClientState) → d.session ≡ c.session → d.attempts ≡ c.attempts → d.phase ≡ c.phase → d.base ≡ c.base → Stays c d
keeps c d s a p b = record { session = s; attempts = a; online = λ e. inl (ap is_online (sym p) ∙ e); opening = λ e. ap is_opening (sym p) ∙ e; base = λ _. b }

leaves : (c d : ClientState) → d.session ≡ c.session → d.attempts ≡ c.attempts → d.phase ≡ phase.Off → d.base ≡ c.base → Stays c d
leaves c d s a p b = record { session = s; attempts = a; online = λ e. absurd (true≢false (sym e ∙ ap is_online p)); opening = λ e. absurd (true≢false (sym e ∙ ap is_opening p)); base = λ _. b }

pub stays_itself : (c : ClientState) → Stays c c
stays_itself c = keeps c c refl refl refl refl

choose : (c : ClientState) (b : Bool) (x y : ClientState) → (b ≡ true → Stays c x) → (b ≡ false → Stays c y) → Stays c (if b then x else y)
choose c true x y f g = f refl
choose c false x y f g = g refl

-- ---- calls

answer_stays : (c : ClientState) (k : ℕ) (given : Answer) (o : Option Ask) → Stays c (after_answer c k given o)
answer_stays c k given None = stays_itself c
answer_stays c k answer.Abort (Some a) = keeps c _ refl refl refl refl
answer_stays c k (answer.New new) (Some a) = keeps c _ refl refl refl refl

queued_session : (c : ClientState) (m : Queued) (b : Bool) → (if b then enqueue c m else c).session ≡ c.session
queued_session c m true = refl
queued_session c m false = refl

queued_attempts : (c : ClientState) (m : Queued) (b : Bool) → (if b then enqueue c m else c).attempts ≡ c.attempts
queued_attempts c m true = refl
queued_attempts c m false = refl

queued_phase : (c : ClientState) (m : Queued) (b : Bool) → (if b then enqueue c m else c).phase ≡ c.phase
queued_phase c m true = refl
queued_phase c m false = refl

queued_base : (c : ClientState) (m : Queued) (b : Bool) → (if b then enqueue c m else c).base ≡ c.base
queued_base c m true = refl
queued_base c m false = refl

listen_stays : (c : ClientState) (p : Path) (o : Option Watch) → Stays c (after_listen c p o)
listen_stays c p (Some w) = keeps c _ refl refl refl refl
listen_stays c p None = let m = queued.On (c.requests + 1) p in keeps c _ (queued_session c m (is_online c.phase)) (queued_attempts c m (is_online c.phase)) (queued_phase c m (is_online c.phase)) (queued_base c m (is_online c.phase))

unlisten_stays : (c : ClientState) (p : Path) (o : Option Watch) → Stays c (after_unlisten c p o)
unlisten_stays c p None = stays_itself c
unlisten_stays c p (Some w) = let m = queued.Off p in keeps c _ (queued_session c m (is_online c.phase)) (queued_attempts c m (is_online c.phase)) (queued_phase c m (is_online c.phase)) (queued_base c m (is_online c.phase))

-- a session is asked for, where none is open
pub record Begins (c d : ClientState) : Type 0 where
  pub session : d.session ≡ record c.session { attempt = c.attempts + 1 }
  pub attempts : d.attempts ≡ c.attempts + 1
  pub was : is_online c.phase ≡ false
  pub now : is_online d.phase ≡ false
  pub base : d.base ≡ c.base

-- what a step does to the session
abbrev pub Moves : ClientState → ClientState → Type 0
Moves c d = Stays c d ⊎ Begins c d

begins_if : (c d : ClientState) (b : Bool) → b ≡ false → Begins c d → Begins c (if b then c else d)
begins_if c d true e h = absurd (true≢false e)
begins_if c d false e h = h

not_online : (c : ClientState) → is_some (session_of c) ≡ false → is_online c.phase ≡ false
not_online c e = by (is_online c.phase) refl where
  by : (b : Bool) → is_online c.phase ≡ b → b ≡ false
  by true f = absurd (true≢false (sym (ap (λ b. is_some (if b then Some c.session else (if is_opening c.phase then Some c.session else None))) f) ∙ e))
  by false f = refl

pub call_stays : (c : ClientState) (k : Call) → Moves c (after_call c k)
call_stays c (call.Set p draft) = inl (keeps c _ refl refl refl refl)
call_stays c (call.Update p places) = inl (keeps c _ refl refl refl refl)
call_stays c (call.Remove p) = inl (keeps c _ refl refl refl refl)
call_stays c (call.Transact p) = inl (keeps c _ refl refl refl refl)
call_stays c (call.Answer k given) = inl (answer_stays c k given (ask_of k c.asks))
call_stays c (call.OnDisconnectSet p draft) = inl (keeps c _ refl refl refl refl)
call_stays c (call.OnDisconnectUpdate p places) = inl (keeps c _ refl refl refl refl)
call_stays c (call.OnDisconnectRemove p) = inl (keeps c _ refl refl refl refl)
call_stays c (call.OnDisconnectCancel p) = inl (keeps c _ refl refl refl refl)
call_stays c (call.Listen p) = inl (listen_stays c p (watch_of p c.watches))
call_stays c (call.Unlisten p) = inl (unlisten_stays c p (watch_of p c.watches))
call_stays c call.GoOnline = by (is_some (session_of c)) refl where
  by : (b : Bool) → is_some (session_of c) ≡ b → Moves c (after_go_online c)
  by true e = inl (choose c (is_some (session_of c)) c _ (λ _. stays_itself c) (λ f. absurd (true≢false (sym e ∙ f))))
  by false e = inr (begins_if c _ (is_some (session_of c)) e (record { session = refl; attempts = refl; was = not_online c e; now = refl; base = refl }))
call_stays c call.GoOffline = inl (choose c (is_online c.phase) _ _ (λ _. leaves c _ refl refl refl refl) (λ _. leaves c _ refl refl refl refl))
call_stays c call.Lost = inl (choose c (is_online c.phase) _ _ (λ _. leaves c _ refl refl refl refl) (λ _. leaves c _ refl refl refl refl))
call_stays c call.Beat = inl (keeps c _ refl refl refl refl)
call_stays c call.Resend = inl (keeps c _ refl refl refl refl)

-- ---- messages

write_stays : (c : ClientState) (z k : ℕ) (rest : List Queued) (done : ℕ) (out : Kept) → Stays c (write_outcome (bring c z) k rest done out)
write_stays c z k rest done kept.Wrote = keeps c _ refl refl refl refl
write_stays c z k rest done (kept.Stale held) = leaves c _ refl refl refl refl

try_stays : (c : ClientState) (z k attempt : ℕ) (t : Comparison) (rest : List Queued) (done : ℕ) (out : Kept) → Stays c (try_outcome (bring c z) k attempt t rest done out)
try_stays c z k attempt t rest done kept.Wrote = keeps c _ refl refl refl refl
try_stays c z k attempt t rest done (kept.Stale held) = choose c (nat_lt attempt most_tries) _ _ (λ _. keeps c _ refl refl refl refl) (λ _. keeps c _ refl refl refl refl)

reply_stays : (c : ClientState) (z : ℕ) (queue : List Queued) (q n done : ℕ) (out : Kept) → Stays c (judge_reply (bring c z) queue q n done out)
reply_stays c z [] q n done out = leaves c _ refl refl refl refl
reply_stays c z (queued.Write k o ∷ rest) q n done out = choose c (fits_write (bring c z) q n) _ _ (λ _. write_stays c z k rest done out) (λ _. leaves c _ refl refl refl refl)
reply_stays c z (queued.Try k attempt t ∷ rest) q n done out = choose c (fits_write (bring c z) q n) _ _ (λ _. try_stays c z k attempt t rest done out) (λ _. leaves c _ refl refl refl refl)
reply_stays c z (queued.Left k o ∷ rest) q n done out = leaves c _ refl refl refl refl
reply_stays c z (queued.Cancel k p ∷ rest) q n done out = leaves c _ refl refl refl refl
reply_stays c z (queued.On k p ∷ rest) q n done out = leaves c _ refl refl refl refl
reply_stays c z (queued.Off p ∷ rest) q n done out = leaves c _ refl refl refl refl

action_stays : (c : ClientState) (z : ℕ) (rest : List Queued) (q : ℕ) (told : ℕ → Notice) (k : Option ℕ) → Stays c (action_answered (bring c z) rest q told k)
action_stays c z rest q told None = leaves c _ refl refl refl refl
action_stays c z rest q told (Some k) = choose c (fits (bring c z) q) _ _ (λ _. keeps c _ refl refl refl refl) (λ _. leaves c _ refl refl refl refl)

denied_stays : (c : ClientState) (z : ℕ) (rest : List Queued) (q : ℕ) (f : Option (ℕ × Path)) → Stays c (listen_denied (bring c z) rest q f)
denied_stays c z rest q None = leaves c _ refl refl refl refl
denied_stays c z rest q (Some f) = choose c (fits (bring c z) q) _ _ (λ _. keeps c _ refl refl refl refl) (λ _. leaves c _ refl refl refl refl)

limit_stays : (c : ClientState) (z q : ℕ) (why : Limit) → Stays c (judge_denied (bring c z) c.queue q why)
limit_stays c z q limit.Plan = action_stays c z (drop 1 c.queue) q _ (first_action c.queue)
limit_stays c z q limit.Listens = denied_stays c z (drop 1 c.queue) q (first_listen c.queue)

told_stays : (c : ClientState) (z : ℕ) (rest : List Queued) (p : Path) (v : Rows Scalar) (w : Option Watch) → Stays c (after_value (answered (bring c z) rest) p z v w)
told_stays c z rest p v None = keeps c _ refl refl refl refl
told_stays c z rest p v (Some w) = keeps c _ refl refl refl refl

snap_stays : (c : ClientState) (z : ℕ) (rest : List Queued) (q : ℕ) (p : Path) (v : Rows Scalar) (f : Option (ℕ × Path)) → Stays c (listen_answered (bring c z) rest z q p v f)
snap_stays c z rest q p v None = leaves c _ refl refl refl refl
snap_stays c z rest q p v (Some f) = choose c (fits (bring c z) q && same_path f.1 p) _ _ (λ _. choose c (is_last p rest) _ _ (λ _. told_stays c z rest p v (watch_of p c.watches)) (λ _. keeps c _ refl refl refl refl)) (λ _. leaves c _ refl refl refl refl)

fault_stays : (c : ClientState) (reason : Code) → Stays c (own_fault c reason)
fault_stays c reason =
    choose c (is_opening c.phase) _ _ (λ _. leaves c _ refl refl refl refl)
    (λ _. choose c (is_online c.phase) _ c (λ _. choose c (ends_session reason) _ _ (λ _. leaves c _ refl refl refl refl) (λ _. keeps c _ refl refl refl refl)) (λ _. stays_itself c))

faulted_stays : (c : ClientState) (s : Option SessionId) (reason : Code) → Stays c (after_fault c s reason)
faulted_stays c None reason = keeps c _ refl refl refl refl
faulted_stays c (Some s) reason = choose c (same_session s c.session) (own_fault c reason) c (λ _. fault_stays c reason) (λ _. stays_itself c)

apart : (p : Phase) → is_online p ≡ true → is_opening p ≡ true → ⊥
apart phase.Online e f = true≢false (sym f)
apart phase.Opening e f = true≢false (sym e)
apart phase.Off e f = true≢false (sym e)

welcome_stays : (c : ClientState) (ops : ℕ) → is_opening c.phase ≡ true → Stays c (after_welcome c ops)
welcome_stays c ops e = choose c (is_fit c ops) _ _ (λ _. record { session = refl; attempts = refl; online = λ _. inr e; opening = λ f. absurd (true≢false (sym f)); base = λ f. absurd (apart c.phase (f refl) e) }) (λ _. leaves c _ refl refl refl refl)

taken_stays : (c : ClientState) (s : SessionId) (r : ℕ) (d : ClientState) → Stays c d → Stays c (if is_next c s r then d else c)
taken_stays c s r d h = choose c (is_next c s r) d c (λ _. h) (λ _. stays_itself c)

pub receive_stays : (c : ClientState) (m : Down) → Stays c (after_receive c m)
receive_stays c (down.Welcome s z ops) = choose c (is_opening c.phase && same_session s c.session) (after_welcome c ops) c (λ e. welcome_stays c ops (and_parts (is_opening c.phase) _ e).0) (λ _. stays_itself c)
receive_stays c (down.Reply s r z q n done out) = taken_stays c s r _ (reply_stays c z c.queue q n done out)
receive_stays c (down.Gone s r z why) = taken_stays c s r _ (leaves c _ refl refl refl refl)
receive_stays c (down.Fault session reason) = faulted_stays c session reason
receive_stays c (down.Armed s r z q) = taken_stays c s r _ (action_stays c z (drop 1 c.queue) q armed (first_action c.queue))
receive_stays c (down.Denied s r z q why) = taken_stays c s r _ (limit_stays c z q why)
receive_stays c (down.Snap s r z q p v) = taken_stays c s r _ (snap_stays c z (drop 1 c.queue) q p v (first_listen c.queue))
receive_stays c (down.Push s r z vs) = taken_stays c s r _ (keeps c _ refl refl refl refl)
receive_stays c (down.OffDone s r z q) = taken_stays c s r _ (choose c (fits (bring c z) q && first_is_off c.queue) _ _ (λ _. keeps c _ refl refl refl refl) (λ _. leaves c _ refl refl refl refl))

-- a client that doesn't go Online counts its writes on from where it did
pub moves_base : (c d : ClientState) → Moves c d → (is_online d.phase ≡ true → is_online c.phase ≡ true) → d.base ≡ c.base
moves_base c d (inl x) h = x.base h
moves_base c d (inr x) h = x.base
