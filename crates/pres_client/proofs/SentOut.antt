-- What a step sends.
use Rattle.std.proofs.Common.{refl, sym, ◌∙◌, ap, subst, ◌≡◌, ℕ, ◌+◌, arith, List, [], ◌∷◌, ◌++◌, length, take, drop, append-nil, append_assoc, Bool, true, false, ◌&&◌, if◌then◌else◌, true≢false, inl, inr, Option, Some, None}
use Rattle.std.specs.List.{All, Contains}
use Rattle.std.specs.Option.{is_some, is_none}
use Rattle.std.proofs.lemmas.Bool.{and_parts}
use Rattle.std.proofs.lemmas.List.{append_cancel_left, take-append-drop}
use Rattle.std.proofs.lemmas.List.Elements.{All-nil, All-cons, Contains-append_right}
use Rattle.pres_tree.specs.Paths.{Path}
use Rattle.pres_write.specs.declared.op.Op.{Op}
use Rattle.pres_write.specs.declared.op.Op.TheVariants as op
use Rattle.pres_write.specs.declared.unconditional.Unconditional.TheVariants as unconditional
use Rattle.pres_write.specs.Transactions.{comparison}
use Rattle.pres_write.specs.Updates.{update_of}
use Rattle.pres_ids.specs.declared.id.SessionId.{SessionId}
use Rattle.pres_wire.specs.declared.down.Code.TheVariants as code
use Rattle.pres_wire.specs.declared.down.Down.{Down}
use Rattle.pres_wire.specs.declared.down.Down.TheVariants as down
use Rattle.pres_wire.specs.declared.up.Up.{Up}
use Rattle.pres_wire.specs.declared.up.Up.TheVariants as up
use Rattle.pres_ids.specs.Ids.{same_session}
use Rattle.pres_client_state.specs.declared.ask.Ask.{Ask}
use Rattle.pres_client.specs.declared.call.Answer.{Answer}
use Rattle.pres_client.specs.declared.call.Answer.TheVariants as answer
use Rattle.pres_client.specs.declared.call.Call.{Call}
use Rattle.pres_client.specs.declared.call.Call.TheVariants as call
use Rattle.pres_client.specs.declared.client.Phase.TheVariants as phase
use Rattle.pres_client_state.specs.declared.notice.Notice.TheVariants as notice
use Rattle.pres_client_state.specs.declared.queued.Queued.{Queued}
use Rattle.pres_client_state.specs.declared.queued.Queued.TheVariants as queued
use Rattle.pres_client_state.specs.declared.watch.Watch.{Watch}
use Rattle.pres_client_state.specs.Watches.{watch_of, with_watch, without_watch, fresh}
use Rattle.pres_client_state.specs.Queues.{message}
use Rattle.pres_client_state.specs.Asks.{ask_of}
use Rattle.pres_client.specs.Clients.{ClientState, start, is_online, is_opening, session_of, base_of, outstanding}
use Rattle.pres_client.specs.Calls.{refusal, sent_now, after_write, after_call, end_session, with_request, enqueue, outgoing, note, try_of, after_answer, after_listen, after_unlisten}
use Rattle.pres_client.specs.ReceivedMessages as receiving
use Rattle.pres_client.specs.ReceivedMessages.{is_next, fits, bring, first_listen, first_action, first_is_off, after_receive, after_welcome, after_fault, is_fit, armed}
use Rattle.pres_client.specs.Steps.{ClientStep, calls, receives, hands_out_sends, hands_out_notices, after, run}
use Rattle.pres_client.specs.Sends.{SendList, none_made, Unnumbered, opening, made_one, wrote_one, answered_one, made_by, made_step, kept_while, made, MayGoOut, StepSends}
use Rattle.pres_client.proofs.Phases.{opening_off}
use Rattle.pres_client.proofs.Sent.{Fits, opens}
use Rattle.pres_client.proofs.Silent.{Silent, silent_if, silent_reply, silent_action, silent_denied, silent_snap, silent_fault}
use Rattle.pres_client.proofs.SentSteps.{Keeps, kept_same, made_messages, keeps_run, keeps_start}

-- ---- lists

-- the members of the rest of a list are members of the list
all_in : (P : Up → Type 0) (pre xs : List Up) → ((x : Up) → Contains (pre ++ xs) x → P x) → All P xs
all_in P pre [] f = All-nil P
all_in P pre (x ∷ xs) f =
    All-cons P x xs (f x (Contains-append_right pre (x ∷ xs) x (0, omega arith, refl))) (all_in P (pre ++ x ∷ []) xs (λ y m. f y (subst (λ l. Contains l y) (append_assoc pre (x ∷ []) xs) m)))

-- what is sent out of a session's list
all_listed : (d : ClientState) (ms : List Up) (k : ℕ) → All (MayGoOut d ms) (drop k ms)
all_listed d ms k = all_in (MayGoOut d ms) (take k ms) (drop k ms) (λ x m. inr (inr (subst (λ l. Contains l x) (take-append-drop k ms) m)))

one_listed : (d : ClientState) (ms : List Up) (x : Up) → MayGoOut d (ms ++ x ∷ []) x
one_listed d ms x = inr (inr (Contains-append_right ms (x ∷ []) x (0, omega arith, refl)))

-- ---- what a step sends

-- from c to d nothing goes out that may not, where the session's list is ms
abbrev Says : ClientState → ClientState → List Up → Type 0
Says c d ms = (new : List Up) → d.sends ≡ c.sends ++ new → All (MayGoOut d ms) new

says : (c d : ClientState) (ms out : List Up) → d.sends ≡ c.sends ++ out → All (MayGoOut d ms) out → Says c d ms
says c d ms out e h new k = subst (All (MayGoOut d ms)) (append_cancel_left c.sends out new (sym e ∙ k)) h

none : (P : Up → Type 0) → All P []
none P = All-nil P

quiet : (c d : ClientState) (ms : List Up) → d.sends ≡ c.sends → Says c d ms
quiet c d ms e = says c d ms [] (e ∙ sym (append-nil c.sends)) (none (MayGoOut d ms))

-- after a step that made t
abbrev Tells : ClientState → SendList → ClientState → Type 0
Tells c t d = Says c d (kept_while c d t).messages

choose : (c : ClientState) (t : SendList) (b : Bool) (x y : ClientState) → (b ≡ true → Tells c t x) → (b ≡ false → Tells c t y) → Tells c t (if b then x else y)
choose c t true x y f g = f refl
choose c t false x y f g = g refl

both : (c : ClientState) (b : Bool) (t u : SendList) (x y : ClientState) → (b ≡ true → Tells c t x) → (b ≡ false → Tells c u y) → Tells c (if b then t else u) (if b then x else y)
both c true t u x y f g = f refl
both c false t u x y f g = g refl

still : (c d : ClientState) (t : SendList) → (is_online d.phase ≡ true → is_online c.phase ≡ true) → (kept_while c d t).messages ≡ t.messages
still c d t e = ap (λ (u : SendList). u.messages) (kept_same (is_online d.phase) (is_online c.phase) t (opening d t) e)

-- one message more
one_more : (c d : ClientState) (t u : SendList) (m : Queued) → Keeps c t → d.sends ≡ c.sends ++ sent_now c m → (is_online d.phase ≡ true → is_online c.phase ≡ true)
    → (is_online c.phase ≡ true → u.messages ≡ t.messages ++ message c.session (length t.messages + 1) (base_of c + length t.writes + 1) m ∷ []) → Tells c u d
one_more c d t u m h e on ms = subst (Says c d) (sym (still c d u on)) (says c d u.messages (sent_now c m) e (by (is_online c.phase) refl)) where
  q : ℕ
  q = c.heard + length c.queue + 1

  n : ℕ
  n = base_of c + c.made + 1

  by : (b : Bool) → is_online c.phase ≡ b → All (MayGoOut d u.messages) (if b then message c.session q n m ∷ [] else [])
  by true k =
      let made : u.messages ≡ t.messages ++ message c.session q n m ∷ [] = ms k ∙ λ i. t.messages ++ message c.session ((h.online k).count i + 1) (base_of c + h.writes i + 1) m ∷ [] in
      subst (λ l. All (MayGoOut d l) (message c.session q n m ∷ [])) (sym made)
      (All-cons (MayGoOut d (t.messages ++ message c.session q n m ∷ [])) _ [] (one_listed d t.messages (message c.session q n m)) (none (MayGoOut d (t.messages ++ message c.session q n m ∷ []))))
  by false k = none (MayGoOut d u.messages)

-- ---- calls

tells_write : (c : ClientState) (t : SendList) (o : Op) → Keeps c t → Tells c (wrote_one c t o) (after_write c o)
tells_write c t o h =
    one_more c (after_write c o) t (wrote_one c t o) (queued.Write (c.requests + 1) o) h refl (λ e. e) (λ e. made_messages c t (λ q. up.Op c.session q (base_of c + length t.writes + 1) o) e)

tells_answer : (c : ClientState) (t : SendList) (k : ℕ) (given : Answer) (o : Option Ask) → Keeps c t → Tells c (answered_one c t given o) (after_answer c k given o)
tells_answer c t k given None h = quiet c c _ refl
tells_answer c t k answer.Abort (Some a) h = quiet c (after_answer c k answer.Abort (Some a)) _ refl
tells_answer c t k (answer.New new) (Some a) h =
    let o : Op = op.Tx (comparison a.path a.value new) in
    one_more c (after_answer c k (answer.New new) (Some a)) t (wrote_one c t o) (try_of k a new) h refl (λ e. e) (λ e. made_messages c t (λ q. up.Op c.session q (base_of c + length t.writes + 1) o) e)

tells_listen : (c : ClientState) (t : SendList) (x : Path) (o : Option Watch) → Keeps c t → Tells c (if is_none o then made_one c t (λ q. up.On c.session q x) else t) (after_listen c x o)
tells_listen c t x (Some w) h = quiet c (with_request c) _ refl
tells_listen c t x None h = by (is_online c.phase) refl where
  k : ℕ
  k = c.requests + 1

  f : Unnumbered
  f = λ q. up.On c.session q x

  listening : Bool → ClientState
  listening b = let d = (if b then enqueue c (queued.On k x) else c) in let e = with_request d in record e { watches = with_watch x (fresh k) c.watches }

  by : (b : Bool) → is_online c.phase ≡ b → Tells c (made_one c t f) (listening b)
  by true e = one_more c (listening true) t (made_one c t f) (queued.On k x) h refl (λ e. e) (λ e. made_messages c t f e)
  by false e = quiet c (listening false) _ refl

tells_unlisten : (c : ClientState) (t : SendList) (x : Path) (o : Option Watch) → Keeps c t → Tells c (if is_none o then t else made_one c t (λ q. up.Off c.session q x)) (after_unlisten c x o)
tells_unlisten c t x None h = quiet c c _ refl
tells_unlisten c t x (Some w) h = by (is_online c.phase) refl where
  f : Unnumbered
  f = λ q. up.Off c.session q x

  unlistening : Bool → ClientState
  unlistening b = let d = (if b then enqueue c (queued.Off x) else c) in record d { watches = without_watch x c.watches }

  by : (b : Bool) → is_online c.phase ≡ b → Tells c (made_one c t f) (unlistening b)
  by true e = one_more c (unlistening true) t (made_one c t f) (queued.Off x) h refl (λ e. e) (λ e. made_messages c t f e)
  by false e = quiet c (unlistening false) _ refl

tells_offline : (c : ClientState) (t : SendList) → Keeps c t → Tells c (made_one c t (λ q. up.Bye c.session q)) (after_call c call.GoOffline)
tells_offline c t h = choose c (made_one c t f) (is_online c.phase) left stays leaves (λ _. quiet c stays _ refl) where
  f : Unnumbered
  f = λ q. up.Bye c.session q

  bye : Up
  bye = up.Bye c.session (c.heard + length c.queue + 1)

  left : ClientState
  left = let d = end_session c None in record d { sends = c.sends ++ bye ∷ [] }

  stays : ClientState
  stays = record c { phase = phase.Off }

  leaves : is_online c.phase ≡ true → Tells c (made_one c t f) left
  leaves e =
      let made : (made_one c t f).messages ≡ t.messages ++ bye ∷ [] = made_messages c t f e ∙ λ i. t.messages ++ up.Bye c.session ((h.online e).count i + 1) ∷ [] in
      subst (Says c left) (sym made) (says c left (t.messages ++ bye ∷ []) (bye ∷ []) refl (All-cons (MayGoOut left (t.messages ++ bye ∷ [])) bye [] (one_listed left t.messages bye) (none (MayGoOut left (t.messages ++ bye ∷ [])))))

tells_beat : (c : ClientState) (t : SendList) → Tells c t (after_call c call.Beat)
tells_beat c t = says c d ms (if is_online c.phase then up.Beat c.session ∷ [] else []) refl (by (is_online c.phase)) where
  d : ClientState
  d = after_call c call.Beat

  ms : List Up
  ms = (kept_while c d t).messages

  by : (b : Bool) → All (MayGoOut d ms) (if b then up.Beat c.session ∷ [] else [])
  by true = All-cons (MayGoOut d ms) (up.Beat c.session) [] (inr (inl refl)) (none (MayGoOut d ms))
  by false = none (MayGoOut d ms)

tells_again : (c : ClientState) (t : SendList) → Keeps c t → Tells c t (after_call c call.Resend)
tells_again c t h = subst (Says c d) (sym (still c d t (λ e. e))) (says c d t.messages (outgoing c) refl (by (is_online c.phase) refl)) where
  d : ClientState
  d = after_call c call.Resend

  hello : (b : Bool) → All (MayGoOut d t.messages) (if b then up.Hello c.session ∷ [] else [])
  hello true = All-cons (MayGoOut d t.messages) (up.Hello c.session) [] (inl refl) (none (MayGoOut d t.messages))
  hello false = none (MayGoOut d t.messages)

  by : (b : Bool) → is_online c.phase ≡ b → All (MayGoOut d t.messages) (if b then outstanding c else (if is_opening c.phase then up.Hello c.session ∷ [] else []))
  by true e = subst (All (MayGoOut d t.messages)) (h.online e).rest (all_listed d t.messages c.heard)
  by false e = hello (is_opening c.phase)

tells_online : (c : ClientState) (t : SendList) → Tells c t (after_call c call.GoOnline)
tells_online c t = choose c t (is_some (session_of c)) c d (λ _. quiet c c _ refl) (λ _. says c d ms (up.Hello s ∷ []) refl (All-cons (MayGoOut d ms) (up.Hello s) [] (inl refl) (none (MayGoOut d ms)))) where
  s : SessionId
  s = record c.session { attempt = c.attempts + 1 }

  d : ClientState
  d = record c { session = s; attempts = c.attempts + 1; phase = phase.Opening; sends = c.sends ++ up.Hello s ∷ [] }

  ms : List Up
  ms = (kept_while c d t).messages

tells_other : (c : ClientState) (t : SendList) (k : Call) (m : Queued) (f : Unnumbered) → ((q n : ℕ) → f q ≡ message c.session q n m) → (after_call c k).sends ≡ c.sends ++ sent_now c m
    → (is_online (after_call c k).phase ≡ true → is_online c.phase ≡ true) → Keeps c t → Tells c (made_one c t f) (after_call c k)
tells_other c t k m f is e on h =
    one_more c (after_call c k) t (made_one c t f) m h e on (λ e. made_messages c t f e ∙ ap (λ x. t.messages ++ x ∷ []) (is (length t.messages + 1) (base_of c + length t.writes + 1)))

tells_call : (c : ClientState) (t : SendList) (k : Call) → Keeps c t → Tells c (made_by c t k) (after_call c k)
tells_call c t (call.Set x draft) h = tells_write c t (op.Set (x, draft)) h
tells_call c t (call.Update x places) h = tells_write c t (op.Update (update_of x places.items)) h
tells_call c t (call.Remove x) h = tells_write c t (op.Set (x, [])) h
tells_call c t (call.Transact x) h = quiet c (after_call c (call.Transact x)) _ refl
tells_call c t (call.Answer k given) h = tells_answer c t k given (ask_of k c.asks) h
tells_call c t (call.OnDisconnectSet x draft) h =
    tells_other c t (call.OnDisconnectSet x draft) (queued.Left (c.requests + 1) (unconditional.Set (x, draft))) (λ q. up.Left c.session q (unconditional.Set (x, draft))) (λ q n. refl) refl (λ e. e) h
tells_call c t (call.OnDisconnectUpdate x places) h =
    let o = unconditional.Update (update_of x places.items) in tells_other c t (call.OnDisconnectUpdate x places) (queued.Left (c.requests + 1) o) (λ q. up.Left c.session q o) (λ q n. refl) refl (λ e. e) h
tells_call c t (call.OnDisconnectRemove x) h =
    tells_other c t (call.OnDisconnectRemove x) (queued.Left (c.requests + 1) (unconditional.Set (x, []))) (λ q. up.Left c.session q (unconditional.Set (x, []))) (λ q n. refl) refl (λ e. e) h
tells_call c t (call.OnDisconnectCancel x) h = tells_other c t (call.OnDisconnectCancel x) (queued.Cancel (c.requests + 1) x) (λ q. up.Cancel c.session q x) (λ q n. refl) refl (λ e. e) h
tells_call c t (call.Listen x) h = tells_listen c t x (watch_of x c.watches) h
tells_call c t (call.Unlisten x) h = tells_unlisten c t x (watch_of x c.watches) h
tells_call c t call.GoOnline h = tells_online c t
tells_call c t call.GoOffline h = tells_offline c t h
tells_call c t call.Lost h = choose c t (is_online c.phase) (end_session c None) (record c { phase = phase.Off }) (λ _. quiet c (end_session c None) _ refl) (λ _. quiet c (record c { phase = phase.Off }) _ refl)
tells_call c t call.Beat h = tells_beat c t
tells_call c t call.Resend h = tells_again c t h

-- ---- messages

tells_welcome : (c : ClientState) (t : SendList) (ops : ℕ) → is_opening c.phase ≡ true → Keeps c t → Tells c t (after_welcome c ops)
tells_welcome c t ops e h = choose c t (is_fit c ops) d refused (λ _. opened (is_online c.phase) (opening_off c e) h) (λ _. quiet c refused _ refl) where
  o : ClientState
  o = receiving.opened c ops

  d : ClientState
  d = let n = note o (notice.Connected true) in record n { sends = c.sends ++ outstanding o }

  refused : ClientState
  refused = let n = note c (notice.Faulted code.Bad) in record n { phase = phase.Off }

  opened : (b : Bool) → b ≡ false → Fits b c.session (base_of c) c.made c.answered c.heard b c.queue t → Says c d (if b then t else opening d t).messages
  opened true k g = absurd (true≢false k)
  opened false k g =
      let list : drop 0 (opening d t).messages ≡ outstanding o = ((opens c.session (base_of o) c.watches g).online refl).rest in
      says c d (opening d t).messages (outstanding o) refl (subst (All (MayGoOut d (opening d t).messages)) list (all_listed d (opening d t).messages 0))

tells_silent : (c : ClientState) (t : SendList) (s : SessionId) (r : ℕ) (d : ClientState) → Silent c d → Tells c t (if is_next c s r then d else c)
tells_silent c t s r d e = choose c t (is_next c s r) d c (λ _. quiet c d _ e) (λ _. quiet c c _ refl)

tells_receive : (c : ClientState) (t : SendList) (m : Down) → Keeps c t → Tells c t (after_receive c m)
tells_receive c t (down.Welcome s z ops) h =
    choose c t (is_opening c.phase && same_session s c.session) (after_welcome c ops) c (λ e. tells_welcome c t ops (and_parts (is_opening c.phase) _ e).0 h) (λ _. quiet c c _ refl)
tells_receive c t (down.Reply s r z q n done out) h = tells_silent c t s r _ (silent_reply c (bring c z) c.queue q n done out refl)
tells_receive c t (down.Gone s r z why) h = tells_silent c t s r (end_session (bring c z) None) refl
tells_receive c t (down.Fault session reason) h = quiet c (after_fault c session reason) _ (silent_fault c session reason)
tells_receive c t (down.Armed s r z q) h = tells_silent c t s r _ (silent_action c (bring c z) (drop 1 c.queue) q armed (first_action c.queue) refl)
tells_receive c t (down.Denied s r z q why) h = tells_silent c t s r _ (silent_denied c (bring c z) c.queue q why refl)
tells_receive c t (down.Snap s r z q x v) h = tells_silent c t s r _ (silent_snap c (bring c z) (drop 1 c.queue) z q x v (first_listen c.queue) refl)
tells_receive c t (down.Push s r z vs) h = tells_silent c t s r (receiving.after_push (bring c z) z vs) refl
tells_receive c t (down.OffDone s r z q) h = tells_silent c t s r (receiving.judge_off_done (bring c z) c.queue q) (silent_if c (fits (bring c z) q && first_is_off c.queue) _ _ refl refl)

-- ---- steps

nothing_left : (xs new : List Up) → [] ≡ xs ++ new → [] ≡ new
nothing_left [] new e = e
nothing_left (x ∷ xs) new e = absurd cc

tells_step : (c : ClientState) (t : SendList) (s : ClientStep) → Keeps c t → Tells c (made_step c t s) (after c s)
tells_step c t (calls k) h = both c (is_none (refusal c k)) (made_by c t k) t (after_call c k) c (λ _. tells_call c t k h) (λ _. quiet c c _ refl)
tells_step c t (receives m) h = tells_receive c t m h
tells_step c t hands_out_sends h =
    let d = after c hands_out_sends in let ms = (kept_while c d t).messages in λ new e. subst (All (MayGoOut d ms)) (nothing_left c.sends new e) (none (MayGoOut d ms))
tells_step c t hands_out_notices h = quiet c (after c hands_out_notices) _ refl

made-push : (c : ClientState) (t : SendList) (steps : List ClientStep) (s : ClientStep)
    → made c t (steps ++ s ∷ []) ≡ kept_while (run c steps) (after (run c steps) s) (made_step (run c steps) (made c t steps) s)
made-push c t [] s = refl
made-push c t (x ∷ steps) s = made-push (after c x) (kept_while c (after c x) (made_step c t x)) steps s

pub steps_send : StepSends
steps_send client incarnation steps s =
    let c0 = start client incarnation in
    let c = run c0 steps in
    subst (λ (t : SendList). Says c (after c s) t.messages) (sym (made-push c0 none_made steps s)) (tells_step c (made c0 none_made steps) s (keeps_run c0 none_made steps (keeps_start client incarnation)))
