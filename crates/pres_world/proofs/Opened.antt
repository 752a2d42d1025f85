-- How a client goes Online.
use Rattle.std.proofs.Common.{if◌then◌else◌, refl, sym, ◌∙◌, ap, ◌≡◌, ◌&&◌, ◌+◌, ◌++◌, ℕ, Bool, true, false, Option, Some, None, true≢false, unwrap_or}
use Rattle.std.specs.Option.{is_some, is_none}
use Rattle.std.proofs.lemmas.Bool.{and_parts}
use Rattle.pres_ids.specs.declared.id.SessionId.{SessionId}
use Rattle.pres_ids.specs.Ids.{same_session}
use Rattle.pres_tree.specs.Paths.{Path}
use Rattle.pres_wire.specs.declared.down.Code.{Code}
use Rattle.pres_wire.specs.declared.down.Down.TheVariants as down
use Rattle.pres_client_state.specs.declared.ask.Ask.{Ask}
use Rattle.pres_client_state.specs.declared.queued.Queued.{Queued}
use Rattle.pres_client_state.specs.declared.queued.Queued.TheVariants as queued
use Rattle.pres_client_state.specs.declared.watch.Watch.{Watch}
use Rattle.pres_client_state.specs.Watches.{watch_of}
use Rattle.pres_client_state.specs.Asks.{ask_of}
use Rattle.pres_client.specs.declared.call.Answer.{Answer}
use Rattle.pres_client.specs.declared.call.Answer.TheVariants as answer
use Rattle.pres_client.specs.declared.call.Call.{Call}
use Rattle.pres_client.specs.declared.call.Call.TheVariants as call
use Rattle.pres_client.specs.declared.client.Phase.TheVariants as phase
use Rattle.pres_client_state.specs.declared.notice.Notice.TheVariants as notice
use Rattle.pres_wire.specs.declared.down.Code.TheVariants as code
use Rattle.pres_server.proofs.Clients.{session_same}
use Rattle.pres_client.specs.Clients.{ClientState, is_online, is_opening, session_of, outstanding}
use Rattle.pres_client.specs.Calls.{refusal, enqueue, after_answer, after_listen, after_unlisten, after_call, note}
use Rattle.pres_client.specs.ReceivedMessages.{is_next, is_fit, opened, own_fault, after_fault, after_welcome, after_receive}
use Rattle.pres_client.specs.Steps.{ClientStep, calls, receives, hands_out_sends, hands_out_notices, after}

-- where the client goes Online, W holds
record Opened (W : Type 0) (c d : ClientState) : Type 0 where
  pub none : is_online d.phase ≡ true → is_online c.phase ≡ false → W

same : (W : Type 0) (c d : ClientState) → is_online d.phase ≡ is_online c.phase → Opened W c d
same W c d e = record { none = λ on off. absurd (true≢false (sym on ∙ e ∙ off)) }

shut : (W : Type 0) (c d : ClientState) → is_online d.phase ≡ false → Opened W c d
shut W c d e = record { none = λ on off. absurd (true≢false (sym on ∙ e)) }

never : (W : Type 0) (c d : ClientState) → is_online c.phase ≡ true → Opened W c d
never W c d e = record { none = λ on off. absurd (true≢false (sym e ∙ off)) }

choose : (W : Type 0) (c : ClientState) (b : Bool) (x y : ClientState) → (b ≡ true → Opened W c x) → (b ≡ false → Opened W c y) → Opened W c (if b then x else y)
choose W c true x y f g = f refl
choose W c false x y f g = g refl

queued_phase : (c : ClientState) (m : Queued) (b : Bool) → is_online (if b then enqueue c m else c).phase ≡ is_online c.phase
queued_phase c m true = refl
queued_phase c m false = refl

answer_opened : (W : Type 0) (c : ClientState) (k : ℕ) (given : Answer) (o : Option Ask) → Opened W c (after_answer c k given o)
answer_opened W c k given None = same W c _ refl
answer_opened W c k answer.Abort (Some a) = same W c _ refl
answer_opened W c k (answer.New new) (Some a) = same W c _ refl

listen_opened : (W : Type 0) (c : ClientState) (p : Path) (o : Option Watch) → Opened W c (after_listen c p o)
listen_opened W c p (Some w) = same W c _ refl
listen_opened W c p None = same W c (after_listen c p None) (queued_phase c (queued.On (c.requests + 1) p) (is_online c.phase))

unlisten_opened : (W : Type 0) (c : ClientState) (p : Path) (o : Option Watch) → Opened W c (after_unlisten c p o)
unlisten_opened W c p None = same W c _ refl
unlisten_opened W c p (Some w) = same W c (after_unlisten c p (Some w)) (queued_phase c (queued.Off p) (is_online c.phase))

call_opened : (W : Type 0) (c : ClientState) (k : Call) → Opened W c (after_call c k)
call_opened W c (call.Set p draft) = same W c _ refl
call_opened W c (call.Update p places) = same W c _ refl
call_opened W c (call.Remove p) = same W c _ refl
call_opened W c (call.Transact p) = same W c _ refl
call_opened W c (call.Answer k given) = answer_opened W c k given (ask_of k c.asks)
call_opened W c (call.OnDisconnectSet p draft) = same W c _ refl
call_opened W c (call.OnDisconnectUpdate p places) = same W c _ refl
call_opened W c (call.OnDisconnectRemove p) = same W c _ refl
call_opened W c (call.OnDisconnectCancel p) = same W c _ refl
call_opened W c (call.Listen p) = listen_opened W c p (watch_of p c.watches)
call_opened W c (call.Unlisten p) = unlisten_opened W c p (watch_of p c.watches)
call_opened W c call.GoOnline = choose W c (is_some (session_of c)) c _ (λ _. same W c c refl) (λ _. shut W c _ refl)
call_opened W c call.GoOffline = choose W c (is_online c.phase) _ _ (λ _. shut W c _ refl) (λ _. shut W c _ refl)
call_opened W c call.Lost = choose W c (is_online c.phase) _ _ (λ _. shut W c _ refl) (λ _. shut W c _ refl)
call_opened W c call.Beat = same W c _ refl
call_opened W c call.Resend = same W c _ refl

next_opened : (W : Type 0) (c : ClientState) (s : SessionId) (r : ℕ) (d : ClientState) → Opened W c (if is_next c s r then d else c)
next_opened W c s r d = choose W c (is_next c s r) d c (λ e. never W c d (and_parts (is_online c.phase) _ e).0) (λ _. same W c c refl)

fault_opened : (W : Type 0) (c : ClientState) (reason : Code) → Opened W c (own_fault c reason)
fault_opened W c reason =
    choose W c (is_opening c.phase) _ _ (λ _. shut W c _ refl)
    (λ _. choose W c (is_online c.phase) _ c (λ e. never W c _ e) (λ _. same W c c refl))

faulted_opened : (W : Type 0) (c : ClientState) (s : Option SessionId) (reason : Code) → Opened W c (after_fault c s reason)
faulted_opened W c None reason = same W c _ refl
faulted_opened W c (Some s) reason = choose W c (same_session s c.session) (own_fault c reason) c (λ _. fault_opened W c reason) (λ _. same W c c refl)

-- a client goes Online by the Welcome of its session alone: it has taken nothing of the stream, and counts its writes
-- on from where it did, or from what the Welcome says
pub record Begun (c : ClientState) (s : SessionId) (ops : ℕ) (d : ClientState) : Type 0 where
  pub session : s ≡ c.session
  pub none : d.taken ≡ 0
  pub base : d.base ≡ Some (unwrap_or c.base ops)

abbrev pub IsWelcomed : ClientState → ClientStep → ClientState → Type 0
IsWelcomed c (receives (down.Welcome s z ops)) d = Begun c s ops d
IsWelcomed c _ d = ⊥

fit_begun : (c : ClientState) (s : SessionId) (ops : ℕ) → s ≡ c.session → (b : Bool) → let d = (if b then (let d = opened c ops in let e = note d (notice.Connected true) in record e { sends = c.sends ++ outstanding d }) else (let d = note c (notice.Faulted code.Bad) in record d { phase = phase.Off })) in is_online d.phase ≡ true → Begun c s ops d
fit_begun c s ops is true on = record { session = is; none = refl; base = refl }
fit_begun c s ops is false on = absurd (true≢false (sym on))

welcome_begun : (c : ClientState) (s : SessionId) (ops : ℕ) (b : Bool) → (is_opening c.phase && same_session s c.session) ≡ b → is_online (if b then after_welcome c ops else c).phase ≡ true → is_online c.phase ≡ false → Begun c s ops (if b then after_welcome c ops else c)
welcome_begun c s ops true e on off = fit_begun c s ops (session_same s c.session (and_parts (is_opening c.phase) _ e).1) (is_fit c ops) on
welcome_begun c s ops false e on off = absurd (true≢false (sym on ∙ off))

begins : (W : Type 0) (c d : ClientState) → Opened W c d → is_online d.phase ≡ true → is_online c.phase ≡ false → W
begins W c d h = h.none

pub step_opened : (c : ClientState) (s : ClientStep) → is_online (after c s).phase ≡ true → is_online c.phase ≡ false → IsWelcomed c s (after c s)
step_opened c (calls k) = begins ⊥ c (after c (calls k)) (choose ⊥ c (is_none (refusal c k)) (after_call c k) c (λ _. call_opened ⊥ c k) (λ _. same ⊥ c c refl))
step_opened c (receives (down.Welcome s z ops)) = welcome_begun c s ops (is_opening c.phase && same_session s c.session) refl
step_opened c (receives (down.Reply s r z q n done out)) = begins ⊥ c (after_receive c (down.Reply s r z q n done out)) (next_opened ⊥ c s r _)
step_opened c (receives (down.Gone s r z why)) = begins ⊥ c (after_receive c (down.Gone s r z why)) (next_opened ⊥ c s r _)
step_opened c (receives (down.Fault session reason)) = begins ⊥ c (after_receive c (down.Fault session reason)) (faulted_opened ⊥ c session reason)
step_opened c (receives (down.Armed s r z q)) = begins ⊥ c (after_receive c (down.Armed s r z q)) (next_opened ⊥ c s r _)
step_opened c (receives (down.Denied s r z q why)) = begins ⊥ c (after_receive c (down.Denied s r z q why)) (next_opened ⊥ c s r _)
step_opened c (receives (down.Snap s r z q p v)) = begins ⊥ c (after_receive c (down.Snap s r z q p v)) (next_opened ⊥ c s r _)
step_opened c (receives (down.Push s r z vs)) = begins ⊥ c (after_receive c (down.Push s r z vs)) (next_opened ⊥ c s r _)
step_opened c (receives (down.OffDone s r z q)) = begins ⊥ c (after_receive c (down.OffDone s r z q)) (next_opened ⊥ c s r _)
step_opened c hands_out_sends = begins ⊥ c (after c hands_out_sends) (same ⊥ c _ refl)
step_opened c hands_out_notices = begins ⊥ c (after c hands_out_notices) (same ⊥ c _ refl)

pub opened_taken : (c : ClientState) (s : ClientStep) → is_online (after c s).phase ≡ true → is_online c.phase ≡ false → (after c s).taken ≡ 0
opened_taken c s on off = by s refl (step_opened c s on off) where
  by : (t : ClientStep) → s ≡ t → IsWelcomed c t (after c t) → (after c s).taken ≡ 0
  by (receives (down.Welcome x z ops)) is h = ap (λ y. (after c y).taken) is ∙ h.none
  by (receives (down.Reply x r z q n done out)) is h = absurd h
  by (receives (down.Gone x r z why)) is h = absurd h
  by (receives (down.Fault session reason)) is h = absurd h
  by (receives (down.Armed x r z q)) is h = absurd h
  by (receives (down.Denied x r z q why)) is h = absurd h
  by (receives (down.Snap x r z q p v)) is h = absurd h
  by (receives (down.Push x r z vs)) is h = absurd h
  by (receives (down.OffDone x r z q)) is h = absurd h
  by (calls k) is h = absurd h
  by hands_out_sends is h = absurd h
  by hands_out_notices is h = absurd h
