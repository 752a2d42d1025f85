-- What a client made, step by step.
use Rattle.std.proofs.Common.{refl, sym, ◌∙◌, ap, subst, ◌≡◌, ℕ, ◌+◌, List, [], ◌∷◌, ◌++◌, length, drop, append-nil, Bool, true, false, not, ◌&&◌, ◌||◌, if◌then◌else◌, true≢false, Option, Some, None}
use Rattle.std.specs.Option.{is_some, is_none, option_map}
use Rattle.std.proofs.lemmas.Bool.{and_parts}
use Rattle.pres_tree.specs.declared.scalar.Scalar.{Scalar}
use Rattle.pres_tree.specs.Paths.{Path, same_path}
use Rattle.pres_tree.specs.Rows.{Rows}
use Rattle.pres_write.specs.declared.fault.WriteFault.{WriteFault}
use Rattle.pres_write.specs.declared.op.Op.{Op}
use Rattle.pres_write.specs.declared.op.Op.TheVariants as op
use Rattle.pres_write.specs.declared.outcome.Kept.{Kept}
use Rattle.pres_write.specs.declared.outcome.Kept.TheVariants.{Wrote, Stale}
use Rattle.pres_write.specs.declared.unconditional.Unconditional.TheVariants as unconditional
use Rattle.pres_write.specs.Transactions.{Comparison, comparison}
use Rattle.pres_write.specs.Updates.{update_of, update_fault}
use Rattle.pres_ids.specs.declared.id.SessionId.{SessionId}
use Rattle.pres_wire.specs.declared.down.Code.{Code}
use Rattle.pres_wire.specs.declared.down.Code.TheVariants as code
use Rattle.pres_wire.specs.declared.down.Limit.{Limit}
use Rattle.pres_wire.specs.declared.down.Limit.TheVariants as limit
use Rattle.pres_wire.specs.declared.down.Down.{Down}
use Rattle.pres_wire.specs.declared.down.Down.TheVariants as down
use Rattle.pres_wire.specs.declared.up.Up.TheVariants as up
use Rattle.pres_ids.specs.Ids.{ClientId, same_session}
use Rattle.pres_client_state.specs.declared.ask.Ask.{Ask}
use Rattle.pres_client.specs.declared.call.Answer.{Answer}
use Rattle.pres_client.specs.declared.call.Answer.TheVariants as answer
use Rattle.pres_client.specs.declared.call.Call.{Call}
use Rattle.pres_client.specs.declared.call.Call.TheVariants as call
use Rattle.pres_client.specs.declared.client.Phase.TheVariants as phase
use Rattle.pres_client.specs.declared.fault.ClientFault.TheVariants.{Offline, Spent, Write}
use Rattle.pres_client_state.specs.declared.notice.Notice.{Notice}
use Rattle.pres_client_state.specs.declared.notice.Notice.TheVariants as notice
use Rattle.pres_client_state.specs.declared.queued.Queued.{Queued}
use Rattle.pres_client_state.specs.declared.queued.Queued.TheVariants as queued
use Rattle.pres_client_state.specs.declared.watch.Watch.{Watch}
use Rattle.pres_client_state.specs.Watches.{watch_of, without_watch, with_watch, fresh}
use Rattle.pres_client_state.specs.Queues.{is_write, message}
use Rattle.pres_client_state.specs.Asks.{ask_of}
use Rattle.pres_client.specs.Clients.{ClientState, start, is_online, is_opening, session_of, base_of, no_request, no_message}
use Rattle.pres_client.specs.Calls.{refusal, action_refusal, set_fault, after_call, end_session, with_request, enqueue, after_answer, after_listen, after_unlisten, note}
use Rattle.pres_client.specs.ReceivedMessages as receiving
use Rattle.pres_client.specs.ReceivedMessages.{is_next, fits, fits_write, bring, is_last, first_is_off, after_receive, after_welcome, after_fault, own_fault, ends_session, is_fit, judge_reply, write_outcome, try_outcome, write_answered, judge_action, judge_denied, judge_snap, judge_off_done, after_push, armed, denied}
use Rattle.pres_client.specs.Steps.{ClientStep, calls, receives, hands_out_sends, hands_out_notices, after, run}
use Rattle.pres_client.specs.Sends.{SendList, none_made, Unnumbered, opening, made_one, wrote_one, answered_one, made_by, made_step, kept_while, made, SendsHold}
use Rattle.pres_client.proofs.Phases.{not_open, opening_off}
use Rattle.pres_client.proofs.Sent.{Fits, ops_of, pushes, closes, waits, hears, opens}

-- a client and what it made, and one after a step from another
abbrev pub Keeps : ClientState → SendList → Type 0
Keeps c t = Fits (is_online c.phase) c.session (base_of c) c.made c.answered c.heard (is_online c.phase) c.queue t

abbrev pub Goes : ClientState → ClientState → SendList → Type 0
Goes c d t = Fits (is_online c.phase) d.session (base_of d) d.made d.answered d.heard (is_online d.phase) d.queue t

pub kept_same : (on was : Bool) (t u : SendList) → (on ≡ true → was ≡ true) → (if on then (if was then t else u) else t) ≡ t
kept_same true true t u h = refl
kept_same true false t u h = absurd (true≢false (sym (h refl)))
kept_same false was t u h = refl

settled : (c d : ClientState) (t : SendList) → Goes c d t → Keeps d (kept_while c d t)
settled c d t h = subst (Keeps d) (sym (kept_same (is_online d.phase) (is_online c.phase) t (opening d t) h.still))
    (record { still = λ e. e; writes = h.writes; counted = h.counted; left = h.left; online = h.online; offline = h.offline })

choose : (c : ClientState) (t : SendList) (b : Bool) (x y : ClientState) → (b ≡ true → Goes c x t) → (b ≡ false → Goes c y t) → Goes c (if b then x else y) t
choose c t true x y f g = f refl
choose c t false x y f g = g refl

both : (c : ClientState) (b : Bool) (t u : SendList) (x y : ClientState) → (b ≡ true → Goes c x t) → (b ≡ false → Goes c y u) → Goes c (if b then x else y) (if b then t else u)
both c true t u x y f g = f refl
both c false t u x y f g = g refl

-- ---- one message more

made_writes : (c : ClientState) (t : SendList) (m : Unnumbered) → (made_one c t m).writes ≡ t.writes
made_writes c t m = by (is_online c.phase) where
  by : (b : Bool) → (if b then record t { messages = t.messages ++ m (length t.messages + 1) ∷ [] } else t).writes ≡ t.writes
  by true = refl
  by false = refl

pub made_messages : (c : ClientState) (t : SendList) (m : Unnumbered) → is_online c.phase ≡ true → (made_one c t m).messages ≡ t.messages ++ m (length t.messages + 1) ∷ []
made_messages c t m e = ap (λ b. (if b then record t { messages = t.messages ++ m (length t.messages + 1) ∷ [] } else t).messages) e

made_off : (c : ClientState) (t : SendList) (m : Unnumbered) → is_online c.phase ≡ false → made_one c t m ≡ t
made_off c t m e = ap (λ b. if b then record t { messages = t.messages ++ m (length t.messages + 1) ∷ [] } else t) e

-- a write, and a try
goes_write : (c : ClientState) (t : SendList) (k : ℕ) (o : Op) → Keeps c t
    → Fits (is_online c.phase) c.session (base_of c) (c.made + 1) c.answered c.heard (is_online c.phase) (c.queue ++ queued.Write k o ∷ []) (wrote_one c t o)
goes_write c t k o h = pushes (queued.Write k o) (wrote_one c t o) refl (λ e. made_messages c t (λ q. up.Op c.session q (base_of c + length t.writes + 1) o) e) (λ _. refl) refl h

goes_try : (c : ClientState) (t : SendList) (k attempt : ℕ) (x : Comparison) → Keeps c t
    → Fits (is_online c.phase) c.session (base_of c) (c.made + 1) c.answered c.heard (is_online c.phase) (c.queue ++ queued.Try k attempt x ∷ []) (wrote_one c t (op.Tx x))
goes_try c t k attempt x h = pushes (queued.Try k attempt x) (wrote_one c t (op.Tx x)) refl (λ e. made_messages c t (λ q. up.Op c.session q (base_of c + length t.writes + 1) (op.Tx x)) e) (λ _. refl) refl h

-- another message, where the client is Online
goes_other : (c : ClientState) (t : SendList) (m : Queued) (f : Unnumbered) → ops_of (m ∷ []) ≡ [] → is_write m ≡ false → ((q n : ℕ) → f q ≡ message c.session q n m) → is_online c.phase ≡ true → Keeps c t
    → Fits (is_online c.phase) c.session (base_of c) c.made c.answered c.heard (is_online c.phase) (c.queue ++ m ∷ []) (made_one c t f)
goes_other c t m f none plain is on h =
    subst (λ k. Fits (is_online c.phase) c.session (base_of c) k c.answered c.heard (is_online c.phase) (c.queue ++ m ∷ []) (made_one c t f)) (ap (λ b. if b then c.made + 1 else c.made) plain)
    (pushes m (made_one c t f) (made_writes c t f ∙ sym (append-nil t.writes) ∙ ap (λ r. t.writes ++ r) (sym none))
    (λ e. made_messages c t f e ∙ ap (λ x. t.messages ++ x ∷ []) (is (length t.messages + 1) (base_of c + length t.writes + 1)))
    (λ e. absurd (true≢false (sym on ∙ e))) (ap length none ∙ sym (ap (λ b. if b then 0 + 1 else 0) plain)) h)

-- ---- calls

pub accepted_online : (c : ClientState) (fault : Option WriteFault) → is_none (action_refusal c fault) ≡ true → is_online c.phase ≡ true
accepted_online c fault h = by (is_online c.phase) h where
  by : (b : Bool) → is_none (if not b then Some Offline else (if no_request c || no_message c then Some Spent else option_map Write fault)) ≡ true → b ≡ true
  by true k = refl
  by false k = absurd (true≢false (sym k))

goes_answer : (c : ClientState) (t : SendList) (k : ℕ) (given : Answer) (o : Option Ask) → Keeps c t → Goes c (after_answer c k given o) (answered_one c t given o)
goes_answer c t k given None h = h
goes_answer c t k answer.Abort (Some a) h = h
goes_answer c t k (answer.New new) (Some a) h = goes_try c t k a.attempt (comparison a.path a.value new) h

goes_listen : (c : ClientState) (t : SendList) (x : Path) (o : Option Watch) → Keeps c t → Goes c (after_listen c x o) (if is_none o then made_one c t (λ q. up.On c.session q x) else t)
goes_listen c t x (Some w) h = h
goes_listen c t x None h = by (is_online c.phase) refl where
  k : ℕ
  k = c.requests + 1

  f : Unnumbered
  f = λ q. up.On c.session q x

  by : (b : Bool) → is_online c.phase ≡ b → Goes c (let d = (if b then enqueue c (queued.On k x) else c) in let e = with_request d in record e { watches = with_watch x (fresh k) c.watches }) (made_one c t f)
  by true e = goes_other c t (queued.On k x) f refl refl (λ q n. refl) e h
  by false e = subst (Keeps c) (sym (made_off c t f e)) h

goes_unlisten : (c : ClientState) (t : SendList) (x : Path) (o : Option Watch) → Keeps c t → Goes c (after_unlisten c x o) (if is_none o then t else made_one c t (λ q. up.Off c.session q x))
goes_unlisten c t x None h = h
goes_unlisten c t x (Some w) h = by (is_online c.phase) refl where
  f : Unnumbered
  f = λ q. up.Off c.session q x

  by : (b : Bool) → is_online c.phase ≡ b → Goes c (let d = (if b then enqueue c (queued.Off x) else c) in record d { watches = without_watch x c.watches }) (made_one c t f)
  by true e = goes_other c t (queued.Off x) f refl refl (λ q n. refl) e h
  by false e = subst (Keeps c) (sym (made_off c t f e)) h

goes_call : (c : ClientState) (t : SendList) (k : Call) → is_none (refusal c k) ≡ true → Keeps c t → Goes c (after_call c k) (made_by c t k)
goes_call c t (call.Set x draft) a h = goes_write c t (c.requests + 1) (op.Set (x, draft)) h
goes_call c t (call.Update x places) a h = goes_write c t (c.requests + 1) (op.Update (update_of x places.items)) h
goes_call c t (call.Remove x) a h = goes_write c t (c.requests + 1) (op.Set (x, [])) h
goes_call c t (call.Transact x) a h = h
goes_call c t (call.Answer k given) a h = goes_answer c t k given (ask_of k c.asks) h
goes_call c t (call.OnDisconnectSet x draft) a h =
    goes_other c t (queued.Left (c.requests + 1) (unconditional.Set (x, draft))) _ refl refl (λ q n. refl) (accepted_online c (set_fault x draft) a) h
goes_call c t (call.OnDisconnectUpdate x places) a h =
    goes_other c t (queued.Left (c.requests + 1) (unconditional.Update (update_of x places.items))) _ refl refl (λ q n. refl) (accepted_online c (update_fault x places.items) a) h
goes_call c t (call.OnDisconnectRemove x) a h = goes_other c t (queued.Left (c.requests + 1) (unconditional.Set (x, []))) _ refl refl (λ q n. refl) (accepted_online c None a) h
goes_call c t (call.OnDisconnectCancel x) a h = goes_other c t (queued.Cancel (c.requests + 1) x) _ refl refl (λ q n. refl) (accepted_online c None a) h
goes_call c t (call.Listen x) a h = goes_listen c t x (watch_of x c.watches) h
goes_call c t (call.Unlisten x) a h = goes_unlisten c t x (watch_of x c.watches) h
goes_call c t call.GoOnline a h = choose c t (is_some (session_of c)) c _ (λ _. h) (λ e. waits (not_open c e) h)
goes_call c t call.GoOffline a h =
    let f : Unnumbered = λ q. up.Bye c.session q in
    choose c (made_one c t f) (is_online c.phase) _ _ (λ _. closes (made_one c t f) (made_writes c t f) h) (λ e. waits e (subst (Keeps c) (sym (made_off c t f e)) h))
goes_call c t call.Lost a h = choose c t (is_online c.phase) (end_session c None) _ (λ _. closes t refl h) (λ e. waits e h)
goes_call c t call.Beat a h = h
goes_call c t call.Resend a h = h

-- ---- messages that come

-- the client d with this queue
abbrev With : ClientState → ClientState → SendList → List Queued → Type 0
With c d t ms = Fits (is_online c.phase) d.session (base_of d) d.made d.answered d.heard (is_online d.phase) ms t

goes_end : (c d : ClientState) (t : SendList) (f : Option Code) → Goes c d t → Goes c (end_session d f) t
goes_end c d t f h = closes t refl h

goes_out : (c d : ClientState) (t : SendList) (k : ℕ) (rest : List Queued) (done : ℕ) (out : Kept) → Goes c d t → Goes c (write_answered d rest) t → Goes c (write_outcome d k rest done out) t
goes_out c d t k rest done Wrote h g = g
goes_out c d t k rest done (Stale held) h g = goes_end c d t (Some code.Bad) h

goes_try_out : (c d : ClientState) (t : SendList) (k attempt : ℕ) (x : Comparison) (rest : List Queued) (done : ℕ) (out : Kept) → Goes c (write_answered d rest) t → Goes c (try_outcome d k attempt x rest done out) t
goes_try_out c d t k attempt x rest done Wrote g = g
goes_try_out c d t k attempt x rest done (Stale held) g = choose c t _ _ _ (λ _. g) (λ _. g)

goes_reply : (c d : ClientState) (t : SendList) (ms : List Queued) (q n done : ℕ) (out : Kept) → Goes c d t → With c d t ms → Goes c (judge_reply d ms q n done out) t
goes_reply c d t (queued.Write k o ∷ rest) q n done out h g =
    choose c t (fits_write d q n) _ _ (λ _. goes_out c d t k rest done out h (hears (queued.Write k o) rest g)) (λ _. goes_end c d t (Some code.Bad) h)
goes_reply c d t (queued.Try k attempt x ∷ rest) q n done out h g =
    choose c t (fits_write d q n) _ _ (λ _. goes_try_out c d t k attempt x rest done out (hears (queued.Try k attempt x) rest g)) (λ _. goes_end c d t (Some code.Bad) h)
goes_reply c d t (queued.Left k o ∷ rest) q n done out h g = goes_end c d t (Some code.Bad) h
goes_reply c d t (queued.Cancel k x ∷ rest) q n done out h g = goes_end c d t (Some code.Bad) h
goes_reply c d t (queued.On k x ∷ rest) q n done out h g = goes_end c d t (Some code.Bad) h
goes_reply c d t (queued.Off x ∷ rest) q n done out h g = goes_end c d t (Some code.Bad) h
goes_reply c d t [] q n done out h g = goes_end c d t (Some code.Bad) h

goes_action : (c d : ClientState) (t : SendList) (ms : List Queued) (q : ℕ) (news : ℕ → Notice) → Goes c d t → With c d t ms → Goes c (judge_action d ms q news) t
goes_action c d t (queued.Write k o ∷ rest) q news h g = goes_end c d t (Some code.Bad) h
goes_action c d t (queued.Try k attempt x ∷ rest) q news h g = goes_end c d t (Some code.Bad) h
goes_action c d t (queued.Left k o ∷ rest) q news h g = choose c t (fits d q) _ _ (λ _. hears (queued.Left k o) rest g) (λ _. goes_end c d t (Some code.Bad) h)
goes_action c d t (queued.Cancel k x ∷ rest) q news h g = choose c t (fits d q) _ _ (λ _. hears (queued.Cancel k x) rest g) (λ _. goes_end c d t (Some code.Bad) h)
goes_action c d t (queued.On k x ∷ rest) q news h g = goes_end c d t (Some code.Bad) h
goes_action c d t (queued.Off x ∷ rest) q news h g = goes_end c d t (Some code.Bad) h
goes_action c d t [] q news h g = goes_end c d t (Some code.Bad) h

goes_denied : (c d : ClientState) (t : SendList) (ms : List Queued) (q : ℕ) (why : Limit) → Goes c d t → With c d t ms → Goes c (judge_denied d ms q why) t
goes_denied c d t ms q limit.Plan h g = goes_action c d t ms q denied h g
goes_denied c d t (queued.Write k o ∷ rest) q limit.Listens h g = goes_end c d t (Some code.Bad) h
goes_denied c d t (queued.Try k attempt x ∷ rest) q limit.Listens h g = goes_end c d t (Some code.Bad) h
goes_denied c d t (queued.Left k o ∷ rest) q limit.Listens h g = goes_end c d t (Some code.Bad) h
goes_denied c d t (queued.Cancel k x ∷ rest) q limit.Listens h g = goes_end c d t (Some code.Bad) h
goes_denied c d t (queued.On k x ∷ rest) q limit.Listens h g = choose c t (fits d q) _ _ (λ _. hears (queued.On k x) rest g) (λ _. goes_end c d t (Some code.Bad) h)
goes_denied c d t (queued.Off x ∷ rest) q limit.Listens h g = goes_end c d t (Some code.Bad) h
goes_denied c d t [] q limit.Listens h g = goes_end c d t (Some code.Bad) h

goes_told : (c d : ClientState) (t : SendList) (x : Path) (z : ℕ) (v : Rows Scalar) (o : Option Watch) → Goes c d t → Goes c (receiving.after_value d x z v o) t
goes_told c d t x z v None h = h
goes_told c d t x z v (Some w) h = h

goes_snap : (c d : ClientState) (t : SendList) (ms : List Queued) (z q : ℕ) (x : Path) (v : Rows Scalar) → Goes c d t → With c d t ms → Goes c (judge_snap d ms z q x v) t
goes_snap c d t (queued.Write k o ∷ rest) z q x v h g = goes_end c d t (Some code.Bad) h
goes_snap c d t (queued.Try k attempt y ∷ rest) z q x v h g = goes_end c d t (Some code.Bad) h
goes_snap c d t (queued.Left k o ∷ rest) z q x v h g = goes_end c d t (Some code.Bad) h
goes_snap c d t (queued.Cancel k y ∷ rest) z q x v h g = goes_end c d t (Some code.Bad) h
goes_snap c d t (queued.On k y ∷ rest) z q x v h g =
    let e : ClientState = receiving.answered d rest in
    let k : Goes c e t = hears (queued.On k y) rest g in
    choose c t (fits d q && same_path y x) _ _ (λ _. choose c t (is_last x rest) _ e (λ _. goes_told c e t x z v (watch_of x d.watches) k) (λ _. k)) (λ _. goes_end c d t (Some code.Bad) h)
goes_snap c d t (queued.Off y ∷ rest) z q x v h g = goes_end c d t (Some code.Bad) h
goes_snap c d t [] z q x v h g = goes_end c d t (Some code.Bad) h

goes_off_done : (c d : ClientState) (t : SendList) (ms : List Queued) (q : ℕ) → Goes c d t → With c d t ms → Goes c (judge_off_done d ms q) t
goes_off_done c d t ms q h g = choose c t (fits d q && first_is_off ms) _ _ (λ e. by ms (and_parts (fits d q) _ e).1 g) (λ _. goes_end c d t (Some code.Bad) h) where
  by : (ms : List Queued) → first_is_off ms ≡ true → With c d t ms → Goes c (receiving.answered d (drop 1 ms)) t
  by (queued.Write k o ∷ rest) e g = absurd (true≢false (sym e))
  by (queued.Try k attempt x ∷ rest) e g = absurd (true≢false (sym e))
  by (queued.Left k o ∷ rest) e g = absurd (true≢false (sym e))
  by (queued.Cancel k x ∷ rest) e g = absurd (true≢false (sym e))
  by (queued.On k x ∷ rest) e g = absurd (true≢false (sym e))
  by (queued.Off x ∷ rest) e g = hears (queued.Off x) rest g
  by [] e g = absurd (true≢false (sym e))

goes_own_fault : (c : ClientState) (t : SendList) (reason : Code) → Keeps c t → Goes c (own_fault c reason) t
goes_own_fault c t reason h =
    choose c t (is_opening c.phase) _ _ (λ e. waits (opening_off c e) h) (λ _. choose c t (is_online c.phase) _ c (λ _. choose c t (ends_session reason) _ _ (λ _. goes_end c c t (Some reason) h) (λ _. h)) (λ _. h))

goes_fault : (c : ClientState) (t : SendList) (session : Option SessionId) (reason : Code) → Keeps c t → Goes c (after_fault c session reason) t
goes_fault c t None reason h = h
goes_fault c t (Some s) reason h = choose c t (same_session s c.session) _ c (λ _. goes_own_fault c t reason h) (λ _. h)

-- ---- steps

abbrev Next : ClientState → SendList → ClientState → Type 0
Next c t d = Keeps d (kept_while c d t)

next_if : (c : ClientState) (t : SendList) (b : Bool) (x y : ClientState) → (b ≡ true → Next c t x) → (b ≡ false → Next c t y) → Next c t (if b then x else y)
next_if c t true x y f g = f refl
next_if c t false x y f g = g refl

next_welcome : (c : ClientState) (t : SendList) (ops : ℕ) → is_opening c.phase ≡ true → Keeps c t → Next c t (after_welcome c ops)
next_welcome c t ops e h =
    next_if c t (is_fit c ops) _ _ (λ _. welcomed (is_online c.phase) (opening_off c e) h) (λ _. settled c refused t (waits (opening_off c e) h)) where
      refused : ClientState
      refused = let d = note c (notice.Faulted code.Bad) in record d { phase = phase.Off }

      d : ClientState
      d = receiving.opened c ops

      welcomed : (b : Bool) → b ≡ false → Fits b c.session (base_of c) c.made c.answered c.heard b c.queue t
          → Fits true d.session (base_of d) c.made c.answered 0 true d.queue (if b then t else opening d t)
      welcomed true e h = absurd (true≢false e)
      welcomed false e h = opens c.session (base_of d) c.watches h

taken_goes : (c : ClientState) (t : SendList) (s : SessionId) (r : ℕ) (d : ClientState) → Keeps c t → Goes c d t → Next c t (if is_next c s r then d else c)
taken_goes c t s r d h g = settled c (if is_next c s r then d else c) t (choose c t (is_next c s r) d c (λ _. g) (λ _. h))

next_receive : (c : ClientState) (t : SendList) (m : Down) → Keeps c t → Next c t (after_receive c m)
next_receive c t (down.Welcome s z ops) h =
    next_if c t (is_opening c.phase && same_session s c.session) _ c (λ e. next_welcome c t ops (and_parts (is_opening c.phase) _ e).0 h) (λ _. settled c c t h)
next_receive c t (down.Reply s r z q n done out) h = taken_goes c t s r (judge_reply (bring c z) c.queue q n done out) h (goes_reply c (bring c z) t c.queue q n done out h h)
next_receive c t (down.Gone s r z why) h = taken_goes c t s r (end_session (bring c z) None) h (goes_end c (bring c z) t None h)
next_receive c t (down.Fault session reason) h = settled c (after_fault c session reason) t (goes_fault c t session reason h)
next_receive c t (down.Armed s r z q) h = taken_goes c t s r (judge_action (bring c z) c.queue q armed) h (goes_action c (bring c z) t c.queue q armed h h)
next_receive c t (down.Denied s r z q why) h = taken_goes c t s r (judge_denied (bring c z) c.queue q why) h (goes_denied c (bring c z) t c.queue q why h h)
next_receive c t (down.Snap s r z q x v) h = taken_goes c t s r (judge_snap (bring c z) c.queue z q x v) h (goes_snap c (bring c z) t c.queue z q x v h h)
next_receive c t (down.Push s r z vs) h = taken_goes c t s r (after_push (bring c z) z vs) h h
next_receive c t (down.OffDone s r z q) h = taken_goes c t s r (judge_off_done (bring c z) c.queue q) h (goes_off_done c (bring c z) t c.queue q h h)

pub next_step : (c : ClientState) (t : SendList) (s : ClientStep) → Keeps c t → Keeps (after c s) (kept_while c (after c s) (made_step c t s))
next_step c t (calls k) h = settled c (after c (calls k)) (made_step c t (calls k)) (both c (is_none (refusal c k)) (made_by c t k) t (after_call c k) c (λ a. goes_call c t k a h) (λ _. h))
next_step c t (receives m) h = next_receive c t m h
next_step c t hands_out_sends h = settled c (after c hands_out_sends) t h
next_step c t hands_out_notices h = settled c (after c hands_out_notices) t h

pub keeps_run : (c : ClientState) (t : SendList) (steps : List ClientStep) → Keeps c t → Keeps (run c steps) (made c t steps)
keeps_run c t [] h = h
keeps_run c t (s ∷ steps) h = keeps_run (after c s) (kept_while c (after c s) (made_step c t s)) steps (next_step c t s h)

pub keeps_start : (client : ClientId) (incarnation : ℕ) → Keeps (start client incarnation) none_made
keeps_start client incarnation = record { still = λ e. e; writes = refl; counted = refl; left = refl; online = λ e. absurd cc; offline = λ _. refl }

pub sends_hold : SendsHold
sends_hold client incarnation steps on = ((keeps_run (start client incarnation) none_made steps (keeps_start client incarnation)).online on).rest
