-- The views of a client after any steps.
use Rattle.std.proofs.Common.{refl, sym, ◌∙◌, ap, subst, ◌≡◌, ℕ, ◌+◌, List, [], ◌∷◌, ◌++◌, drop, fold, Bool, true, false, not, cond, ◌&&◌, ◌||◌, if◌then◌else◌, true≢false, Option, Some, None}
use Rattle.std.specs.Option.{is_some, is_none, option_map}
use Rattle.std.specs.List.{list_any, filter, filter_map, last_or, cons_option}
use Rattle.std.proofs.lemmas.Bool.{and_parts}
use Rattle.std.proofs.lemmas.List.Elements.{filter_map-append, All-head, All-tail}
use Rattle.std.proofs.lemmas.List.Folds.{list_any-append}
use Rattle.pres_tree.specs.declared.scalar.Scalar.{Scalar}
use Rattle.pres_tree.specs.Paths.{Path, same_path}
use Rattle.pres_tree.specs.Rows.{Rows, rows_in}
use Rattle.pres_write.specs.declared.op.Op.TheVariants as op
use Rattle.pres_write.specs.declared.outcome.Kept.{Kept}
use Rattle.pres_write.specs.declared.outcome.Kept.TheVariants.{Wrote, Stale}
use Rattle.pres_write.specs.declared.unconditional.Unconditional.TheVariants as unconditional
use Rattle.pres_write.specs.Transactions.{Comparison}
use Rattle.pres_write.specs.Updates.{update_of}
use Rattle.pres_ids.specs.declared.id.SessionId.{SessionId}
use Rattle.pres_wire.specs.declared.down.Code.{Code}
use Rattle.pres_wire.specs.declared.down.Code.TheVariants as code
use Rattle.pres_wire.specs.declared.down.Limit.{Limit}
use Rattle.pres_wire.specs.declared.down.Limit.TheVariants as limit
use Rattle.pres_wire.specs.declared.down.Down.{Down}
use Rattle.pres_wire.specs.declared.down.Down.TheVariants as down
use Rattle.pres_wire.specs.declared.values.PathValue.{PathValue}
use Rattle.pres_ids.specs.Ids.{same_session}
use Rattle.pres_wire.specs.Messages.{number_in}
use Rattle.pres_wire.specs.Values.{Rising}
use Rattle.pres_wire.specs.Views.{value_in, value_told, seen, seen_in}
use Rattle.pres_client_state.specs.declared.ask.Ask.{Ask}
use Rattle.pres_client.specs.declared.call.Answer.{Answer}
use Rattle.pres_client.specs.declared.call.Answer.TheVariants as answer
use Rattle.pres_client.specs.declared.call.Call.{Call}
use Rattle.pres_client.specs.declared.call.Call.TheVariants as call
use Rattle.pres_client_state.specs.declared.notice.Notice.{Notice}
use Rattle.pres_client_state.specs.declared.notice.Notice.TheVariants as notice
use Rattle.pres_client_state.specs.declared.queued.Queued.{Queued}
use Rattle.pres_client_state.specs.declared.queued.Queued.TheVariants as queued
use Rattle.pres_client_state.specs.declared.watch.Watch.{Watch}
use Rattle.pres_client_state.specs.declared.watch.Shown.{Shown}
use Rattle.pres_client_state.specs.declared.watch.Shown.TheVariants as shown
use Rattle.pres_client_state.specs.Watches.{watch_of, without_watch, with_watch, fresh, kept, is_shown_live, is_live, shown_at, watched_at}
use Rattle.pres_client_state.specs.Queues.{is_on, is_write}
use Rattle.pres_client.specs.Clients.{ClientState, start, is_online, is_opening, session_of}
use Rattle.pres_client.specs.Calls.{refusal, after_call, end_session, with_request, enqueue, note, try_of, after_answer, after_listen, after_unlisten}
use Rattle.pres_client.specs.ReceivedMessages as receiving
use Rattle.pres_client.specs.ReceivedMessages.{is_next, fits, fits_write, bring, unfit, is_last, first_listen, first_action, first_is_off, after_receive, after_welcome, after_fault, own_fault, ends_session, is_fit, judge_reply, write_outcome, try_outcome, ask_again, answered, write_answered, action_answered, judge_denied, listen_denied, listen_answered, judge_off_done, after_push, armed, denied, tell_live}
use Rattle.pres_client.specs.Steps.{ClientStep, calls, receives, hands_out_sends, hands_out_notices, after, run, IsMessage, IsClientStep, AreMessages}
use Rattle.pres_client.specs.Views.{Trail, nothing, more, listens_to, with_snap, with_message, trail_step, kept_for, trail, ViewsHold}
use Rattle.pres_client.proofs.Phases.{not_open, opening_off}
use Rattle.pres_tree.proofs.PathOrder.{path_same, path_itself, path_flip}
use Rattle.pres_client.proofs.Found.{watch_of-with, watch_of-without, left, watch_of-frozen, now, told_there, told_elsewhere, push_passed, push_elsewhere, push_there}

-- ---- what is seen, one message more

last_or-push : {A : Type 0} → (o : Option A) (xs : List A) (x : A) → last_or o (xs ++ x ∷ []) ≡ Some x
last_or-push o [] x = refl
last_or-push o (y ∷ xs) x = last_or-push (Some y) xs x

-- the last value received
abbrev last_told : Path → List Down → Option (Rows Scalar)
last_told p ms = last_or None (filter_map (value_told p) ms)

told-push : (p : Path) (ms : List Down) (m : Down) → last_told p (ms ++ m ∷ []) ≡ last_or None (filter_map (value_told p) ms ++ cons_option (value_told p m) [])
told-push p ms m = ap (last_or None) (filter_map-append (value_told p) ms (m ∷ []))

seen_told : (p : Path) (ms : List Down) (m : Down) (v : Rows Scalar) → value_told p m ≡ Some v → seen_in p (ms ++ m ∷ []) ≡ Some (number_in m, v)
seen_told p ms m v e =
    let last : last_told p (ms ++ m ∷ []) ≡ Some v = told-push p ms m ∙ ap (λ o. last_or None (filter_map (value_told p) ms ++ cons_option o [])) e ∙ last_or-push None (filter_map (value_told p) ms) v in
    λ i. seen (last_or-push None ms m i) (last i)

append-none : {A : Type 0} → (xs : List A) → xs ++ [] ≡ xs
append-none [] = refl
append-none (x ∷ xs) = ap (λ ys. x ∷ ys) (append-none xs)

-- what was seen has a value
value_seen : (a : Option Down) (b : Option (Rows Scalar)) (z : ℕ) (v : Rows Scalar) → seen a b ≡ Some (z, v) → b ≡ Some v
value_seen None None z v e = absurd cc
value_seen None (Some y) z v e = absurd cc
value_seen (Some m) None z v e = absurd cc
value_seen (Some m) (Some y) z v e = ap (λ (o : Option (ℕ × Rows Scalar)). elim o as (λ _. Option (Rows Scalar)) [ None ↦ None | Some s ↦ Some s.1 ]) e

seen_silent : (p : Path) (ms : List Down) (m : Down) (z : ℕ) (v : Rows Scalar) → value_told p m ≡ None → seen_in p ms ≡ Some (z, v) → seen_in p (ms ++ m ∷ []) ≡ Some (number_in m, v)
seen_silent p ms m z v e h =
    let last : last_told p (ms ++ m ∷ []) ≡ Some v =
    told-push p ms m ∙ ap (λ o. last_or None (filter_map (value_told p) ms ++ cons_option o [])) e ∙ ap (last_or None) (append-none (filter_map (value_told p) ms)) ∙ value_seen (last_or None ms) (last_told p ms) z v h in
    λ i. seen (last_or-push None ms m i) (last i)

-- ---- a watch and its trail

-- the watch of p, where the last number is z, and the trail show the same; while messages count, the session is open and no listen to p waits
record Agrees (p : Path) (z : ℕ) (o : Option Watch) (on asked : Bool) (t : Trail) : Type 0 where
  shows : watched_at z o ≡ seen_in p t.messages
  live : t.counts ≡ is_live o
  online : t.counts ≡ true → on ≡ true
  unasked : t.counts ≡ true → asked ≡ false

abbrev kept_by : Option Watch → Bool → Trail → Trail
kept_by o on t = if is_some o then (if on then t else record t { counts = false }) else nothing

keeps : (p : Path) (z : ℕ) (o : Option Watch) (on asked : Bool) (t : Trail) → Agrees p z o on asked t → Agrees p z o on asked (kept_by o on t)
keeps p z None on asked t h = record { shows = refl; live = refl; online = λ e. absurd cc; unasked = λ e. absurd cc }
keeps p z (Some w) true asked t h = h
keeps p z (Some w) false asked t h = record { shows = h.shows; live = stopped t.counts refl ∙ h.live; online = λ e. absurd cc; unasked = λ e. absurd cc } where
  stopped : (b : Bool) → t.counts ≡ b → false ≡ t.counts
  stopped true e = h.online e ∙ sym e
  stopped false e = sym e

shown_kept : (z : ℕ) (s : Shown) → shown_at z (kept z s) ≡ shown_at z s
shown_kept z shown.Nothing = refl
shown_kept z (shown.Kept y v) = refl
shown_kept z (shown.Live v) = refl

kept_dead : (z : ℕ) (s : Shown) → false ≡ is_shown_live (kept z s)
kept_dead z shown.Nothing = refl
kept_dead z (shown.Kept y v) = refl
kept_dead z (shown.Live v) = refl

leaves : (p : Path) (z : ℕ) (o : Option Watch) (on asked later : Bool) (t : Trail) → Agrees p z o on asked t → Agrees p z (option_map (left z) o) false later (kept_by (option_map (left z) o) false t)
leaves p z None on asked later t h = record { shows = refl; live = refl; online = λ e. absurd cc; unasked = λ e. absurd cc }
leaves p z (Some w) on asked later t h = record { shows = shown_kept z w.shown ∙ h.shows; live = kept_dead z w.shown; online = λ e. absurd cc; unasked = λ e. absurd cc }

gone : (p : Path) (z : ℕ) (on asked : Bool) (t : Trail) → Agrees p z None on asked (kept_by None on t)
gone p z on asked t = record { shows = refl; live = refl; online = λ e. absurd cc; unasked = λ e. absurd cc }

-- of a watch that isn't live the last number says nothing
dead_at : (y z : ℕ) (o : Option Watch) → is_live o ≡ false → watched_at y o ≡ watched_at z o
dead_at y z None d = refl
dead_at y z (Some w) d = by w.shown d where
  by : (s : Shown) → is_shown_live s ≡ false → shown_at y s ≡ shown_at z s
  by shown.Nothing d = refl
  by (shown.Kept x v) d = refl
  by (shown.Live v) d = absurd (true≢false d)

live_at : (p : Path) (y : ℕ) (o : Option Watch) (ms : List Down) (m : Down) → value_told p m ≡ None → is_live o ≡ true → watched_at y o ≡ seen_in p ms → watched_at (number_in m) o ≡ seen_in p (ms ++ m ∷ [])
live_at p y None ms m e l h = absurd (true≢false (sym l))
live_at p y (Some w) ms m e l h = by w.shown l h where
  by : (s : Shown) → is_shown_live s ≡ true → shown_at y s ≡ seen_in p ms → shown_at (number_in m) s ≡ seen_in p (ms ++ m ∷ [])
  by shown.Nothing l h = absurd (true≢false (sym l))
  by (shown.Kept x v) l h = absurd (true≢false (sym l))
  by (shown.Live v) l h = sym (seen_silent p ms m y v e (sym h))

abbrev more_if : Bool → Trail → Down → Trail
more_if b t m = if b then record t { messages = t.messages ++ m ∷ [] } else t

-- a message that tells nothing of p
passes : (p : Path) (z : ℕ) (o : Option Watch) (on asked : Bool) (t : Trail) (m : Down) → (t.counts ≡ true → value_told p m ≡ None) → Agrees p z o on asked t → Agrees p (number_in m) o on asked (more t m)
passes p z o on asked t m silent h = by t.counts refl where
  by : (b : Bool) → t.counts ≡ b → Agrees p (number_in m) o on asked (more_if b t m)
  by true e = record { shows = live_at p z o t.messages m (silent e) (sym h.live ∙ e) h.shows; live = h.live; online = h.online; unasked = h.unasked }
  by false e = record { shows = dead_at (number_in m) z o (sym h.live ∙ e) ∙ h.shows; live = h.live; online = h.online; unasked = h.unasked }

-- the message that tells the first value
starts : (p : Path) (w : Watch) (asked : Bool) (m : Down) (v : Rows Scalar) → value_told p m ≡ Some v → asked ≡ false → Agrees p (number_in m) (Some (now v w)) true asked (record { messages = m ∷ []; counts = true })
starts p w asked m v e a = record { shows = sym (seen_told p [] m v e); live = refl; online = λ _. refl; unasked = λ _. a }

-- a message that tells a live watch a value
tells : (p : Path) (z : ℕ) (w : Watch) (on asked : Bool) (t : Trail) (m : Down) (v : Rows Scalar) → value_told p m ≡ Some v → is_shown_live w.shown ≡ true → Agrees p z (Some w) on asked t
    → Agrees p (number_in m) (Some (now v w)) on asked (more t m)
tells p z w on asked t m v e l h = by t.counts refl where
  by : (b : Bool) → t.counts ≡ b → Agrees p (number_in m) (Some (now v w)) on asked (more_if b t m)
  by true k = record { shows = sym (seen_told p t.messages m v e); live = k; online = h.online; unasked = h.unasked }
  by false k = absurd (true≢false (sym l ∙ sym h.live ∙ k))

-- ---- the client and a trail

abbrev Holds : Path → ClientState → Trail → Type 0
Holds p c t = Agrees p c.seen (watch_of p c.watches) (is_online c.phase) (list_any (is_on p) c.queue) t

-- after a step
abbrev Next : Path → Trail → ClientState → Type 0
Next p t d = Holds p d (kept_for p d t)

stays : (p : Path) (c : ClientState) (t : Trail) → Holds p c t → Next p t c
stays p c t h = keeps p c.seen (watch_of p c.watches) (is_online c.phase) (list_any (is_on p) c.queue) t h

-- what changes nothing that is seen of p
next : (p : Path) (c : ClientState) (t : Trail) {z : ℕ} {o : Option Watch} {on asked : Bool} → z ≡ c.seen → o ≡ watch_of p c.watches → on ≡ is_online c.phase → (list_any (is_on p) c.queue ≡ false → asked ≡ false) → Holds p c t
    → Agrees p z o on asked (kept_by o on t)
next p c t {z} {o} {on} {asked} ez eo en ea h =
    keeps p z o on asked t (record { shows = (λ i. watched_at (ez i) (eo i)) ∙ h.shows; live = h.live ∙ ap is_live (sym eo); online = λ e. en ∙ h.online e; unasked = λ e. ea (h.unasked e) })

ended : (p : Path) (c : ClientState) (t : Trail) (f : Option Code) → Holds p c t → Next p t (end_session c f)
ended p c t f h =
    let asked : Bool = list_any (is_on p) (filter is_write c.queue) in
    subst (λ o. Agrees p c.seen o false asked (kept_by o false t)) (sym (watch_of-frozen p c.seen c.watches))
    (leaves p c.seen (watch_of p c.watches) (is_online c.phase) (list_any (is_on p) c.queue) asked t h)

-- a path that isn't listened to
lost : (p : Path) (d : ClientState) (t : Trail) → watch_of p d.watches ≡ None → Next p t d
lost p d t e = subst (λ o. Agrees p d.seen o (is_online d.phase) (list_any (is_on p) d.queue) (kept_by o (is_online d.phase) t)) (sym e) (gone p d.seen (is_online d.phase) (list_any (is_on p) d.queue) t)

choose : (p : Path) (t : Trail) (b : Bool) (x y : ClientState) → (b ≡ true → Next p t x) → (b ≡ false → Next p t y) → Next p t (if b then x else y)
choose p t true x y f g = f refl
choose p t false x y f g = g refl

both : (p : Path) (b : Bool) (t u : Trail) (x y : ClientState) → (b ≡ true → Next p t x) → (b ≡ false → Next p u y) → Next p (if b then t else u) (if b then x else y)
both p true t u x y f g = f refl
both p false t u x y f g = g refl

offline : (p : Path) (c : ClientState) (t : Trail) → Holds p c t → is_online c.phase ≡ false → t.counts ≡ false
offline p c t h e = by t.counts refl where
  by : (b : Bool) → t.counts ≡ b → t.counts ≡ false
  by true k = absurd (true≢false (sym (h.online k) ∙ e))
  by false k = k

-- ---- calls

-- one message more, which doesn't listen to p
unasked-push : (p : Path) (ms : List Queued) (m : Queued) → is_on p m ≡ false → list_any (is_on p) ms ≡ false → list_any (is_on p) (ms ++ m ∷ []) ≡ false
unasked-push p ms m e h = list_any-append (is_on p) ms (m ∷ []) ∙ λ i. h i || (e i || false)

sends_one : (p : Path) (c d : ClientState) (t : Trail) (m : Queued) → d.seen ≡ c.seen → d.watches ≡ c.watches → d.phase ≡ c.phase → d.queue ≡ c.queue ++ m ∷ [] → is_on p m ≡ false → Holds p c t → Next p t d
sends_one p c d t m z ws ph q e h = next p c t z (ap (watch_of p) ws) (ap is_online ph) (λ a. ap (list_any (is_on p)) q ∙ unasked-push p c.queue m e a) h

next_answer : (p : Path) (c : ClientState) (t : Trail) (k : ℕ) (given : Answer) (o : Option Ask) → Holds p c t → Next p t (after_answer c k given o)
next_answer p c t k given None h = stays p c t h
next_answer p c t k answer.Abort (Some a) h = next p c t refl refl refl (λ n. n) h
next_answer p c t k (answer.New new) (Some a) h = sends_one p c (after_answer c k (answer.New new) (Some a)) t (try_of k a new) refl refl refl refl refl h

-- a path that wasn't listened to is, and where b a listen goes out
abbrev listening : Bool → ClientState → Path → ClientState
listening b c x =
    let k = c.requests + 1 in
    let d = (if b then enqueue c (queued.On k x) else c) in
    let e = with_request d in record e { watches = with_watch x (fresh k) c.watches }

next_listening : (p : Path) (c : ClientState) (t : Trail) (x : Path) (b : Bool) → watch_of x c.watches ≡ None → Holds p c t → Next p t (listening b c x)
next_listening p c t x b none h = by (same_path p x) refl b where
  k : ℕ
  k = c.requests + 1

  fresh_here : (asked : Bool) → p ≡ x → Agrees p c.seen (Some (fresh k)) (is_online c.phase) asked t
  fresh_here asked is =
      let o : watch_of p c.watches ≡ None = ap (λ y. watch_of y c.watches) is ∙ none in
      let dead : t.counts ≡ false = h.live ∙ ap is_live o in
      record { shows = sym (ap (watched_at c.seen) o) ∙ h.shows; live = dead; online = λ e. absurd (true≢false (sym e ∙ dead)); unasked = λ e. absurd (true≢false (sym e ∙ dead)) }

  watched : (s : Bool) → same_path p x ≡ s → watch_of p (with_watch x (fresh k) c.watches) ≡ cond s (Some (fresh k)) (watch_of p c.watches)
  watched s e = watch_of-with p x (fresh k) c.watches ∙ ap (λ s. cond s (Some (fresh k)) (watch_of p c.watches)) e

  by : (s : Bool) → same_path p x ≡ s → (b : Bool) → Next p t (listening b c x)
  by true e true =
      let asked : Bool = list_any (is_on p) (c.queue ++ queued.On k x ∷ []) in
      subst (λ o. Agrees p c.seen o (is_online c.phase) asked (kept_by o (is_online c.phase) t)) (sym (watched true e)) (keeps p c.seen (Some (fresh k)) (is_online c.phase) asked t (fresh_here asked (path_same p x e)))
  by true e false =
      let asked : Bool = list_any (is_on p) c.queue in
      subst (λ o. Agrees p c.seen o (is_online c.phase) asked (kept_by o (is_online c.phase) t)) (sym (watched true e)) (keeps p c.seen (Some (fresh k)) (is_online c.phase) asked t (fresh_here asked (path_same p x e)))
  by false e true = next p c t refl (watched false e) refl (λ a. unasked-push p c.queue (queued.On k x) (path_flip p x e) a) h
  by false e false = next p c t refl (watched false e) refl (λ a. a) h

next_listen : (p : Path) (c : ClientState) (t : Trail) (x : Path) (o : Option Watch) → watch_of x c.watches ≡ o → Holds p c t → Next p t (after_listen c x o)
next_listen p c t x (Some w) e h = next p c t refl refl refl (λ a. a) h
next_listen p c t x None e h = next_listening p c t x (is_online c.phase) e h

abbrev unlistening : Bool → ClientState → Path → ClientState
unlistening b c x = let d = (if b then enqueue c (queued.Off x) else c) in record d { watches = without_watch x c.watches }

next_unlistening : (p : Path) (c : ClientState) (t : Trail) (x : Path) (b : Bool) → Holds p c t → Next p t (unlistening b c x)
next_unlistening p c t x b h = by (same_path x p) refl b where
  watched : (s : Bool) → same_path x p ≡ s → watch_of p (without_watch x c.watches) ≡ cond (not s) (watch_of p c.watches) None
  watched s e = watch_of-without p x c.watches ∙ ap (λ s. cond (not s) (watch_of p c.watches) None) e

  by : (s : Bool) → same_path x p ≡ s → (b : Bool) → Next p t (unlistening b c x)
  by true e true = lost p (unlistening true c x) t (watched true e)
  by true e false = lost p (unlistening false c x) t (watched true e)
  by false e true = next p c t refl (watched false e) refl (λ a. unasked-push p c.queue (queued.Off x) refl a) h
  by false e false = next p c t refl (watched false e) refl (λ a. a) h

next_unlisten : (p : Path) (c : ClientState) (t : Trail) (x : Path) (o : Option Watch) → Holds p c t → Next p t (after_unlisten c x o)
next_unlisten p c t x None h = stays p c t h
next_unlisten p c t x (Some w) h = next_unlistening p c t x (is_online c.phase) h

next_call : (p : Path) (c : ClientState) (t : Trail) (k : Call) → Holds p c t → Next p t (after_call c k)
next_call p c t (call.Set x draft) h = sends_one p c (after_call c (call.Set x draft)) t (queued.Write (c.requests + 1) (op.Set (x, draft))) refl refl refl refl refl h
next_call p c t (call.Update x places) h = sends_one p c (after_call c (call.Update x places)) t (queued.Write (c.requests + 1) (op.Update (update_of x places.items))) refl refl refl refl refl h
next_call p c t (call.Remove x) h = sends_one p c (after_call c (call.Remove x)) t (queued.Write (c.requests + 1) (op.Set (x, []))) refl refl refl refl refl h
next_call p c t (call.Transact x) h = next p c t refl refl refl (λ a. a) h
next_call p c t (call.Answer k given) h = next_answer p c t k given _ h
next_call p c t (call.OnDisconnectSet x draft) h = sends_one p c (after_call c (call.OnDisconnectSet x draft)) t (queued.Left (c.requests + 1) (unconditional.Set (x, draft))) refl refl refl refl refl h
next_call p c t (call.OnDisconnectUpdate x places) h =
    sends_one p c (after_call c (call.OnDisconnectUpdate x places)) t (queued.Left (c.requests + 1) (unconditional.Update (update_of x places.items))) refl refl refl refl refl h
next_call p c t (call.OnDisconnectRemove x) h = sends_one p c (after_call c (call.OnDisconnectRemove x)) t (queued.Left (c.requests + 1) (unconditional.Set (x, []))) refl refl refl refl refl h
next_call p c t (call.OnDisconnectCancel x) h = sends_one p c (after_call c (call.OnDisconnectCancel x)) t (queued.Cancel (c.requests + 1) x) refl refl refl refl refl h
next_call p c t (call.Listen x) h = next_listen p c t x (watch_of x c.watches) refl h
next_call p c t (call.Unlisten x) h = next_unlisten p c t x (watch_of x c.watches) h
next_call p c t call.GoOnline h = choose p t (is_some (session_of c)) c _ (λ _. stays p c t h) (λ e. next p c t refl refl (sym (not_open c e)) (λ a. a) h)
next_call p c t call.GoOffline h = choose p t (is_online c.phase) _ _ (λ _. ended p c t None h) (λ e. next p c t refl refl (sym e) (λ a. a) h)
next_call p c t call.Lost h = choose p t (is_online c.phase) (end_session c None) _ (λ _. ended p c t None h) (λ e. next p c t refl refl (sym e) (λ a. a) h)
next_call p c t call.Beat h = next p c t refl refl refl (λ a. a) h
next_call p c t call.Resend h = next p c t refl refl refl (λ a. a) h

-- ---- answers

next_ask_again : (p : Path) (d : ClientState) (u : Trail) (k attempt : ℕ) (x : Path) (v : Rows Scalar) → Holds p d u → Next p u (ask_again d k attempt x v)
next_ask_again p d u k attempt x v h = choose p u _ _ _ (λ _. next p d u refl refl refl (λ a. a) h) (λ _. next p d u refl refl refl (λ a. a) h)

-- a part of the queue that doesn't listen to p
abbrev Silent : Path → ClientState → List Queued → Type 0
Silent p d ms = list_any (is_on p) d.queue ≡ false → list_any (is_on p) ms ≡ false

rest_holds : (p : Path) (d : ClientState) (u : Trail) (rest : List Queued) → Silent p d rest → Holds p d u → Holds p (answered d rest) u
rest_holds p d u rest k h = record { shows = h.shows; live = h.live; online = h.online; unasked = λ e. k (h.unasked e) }

next_write : (p : Path) (d : ClientState) (u : Trail) (k : ℕ) (rest : List Queued) (done : ℕ) (out : Kept) → Silent p d rest → Holds p d u → Next p u (write_outcome d k rest done out)
next_write p d u k rest done Wrote a h = next p d u refl refl refl a h
next_write p d u k rest done (Stale held) a h = ended p d u (Some code.Bad) h

next_try : (p : Path) (d : ClientState) (u : Trail) (k attempt : ℕ) (t : Comparison) (rest : List Queued) (done : ℕ) (out : Kept) → Silent p d rest → Holds p d u → Next p u (try_outcome d k attempt t rest done out)
next_try p d u k attempt t rest done Wrote a h = next p d u refl refl refl a h
next_try p d u k attempt t rest done (Stale held) a h = next_ask_again p (write_answered d rest) u k attempt t.path (rows_in held) (rest_holds p d u rest a h)

next_reply : (p : Path) (d : ClientState) (u : Trail) (ms : List Queued) (q n done : ℕ) (out : Kept) → Silent p d ms → Holds p d u → Next p u (judge_reply d ms q n done out)
next_reply p d u (queued.Write k o ∷ rest) q n done out a h = choose p u (fits_write d q n) _ _ (λ _. next_write p d u k rest done out a h) (λ _. ended p d u (Some code.Bad) h)
next_reply p d u (queued.Try k attempt t ∷ rest) q n done out a h = choose p u (fits_write d q n) _ _ (λ _. next_try p d u k attempt t rest done out a h) (λ _. ended p d u (Some code.Bad) h)
next_reply p d u (queued.Left k o ∷ rest) q n done out a h = ended p d u (Some code.Bad) h
next_reply p d u (queued.Cancel k x ∷ rest) q n done out a h = ended p d u (Some code.Bad) h
next_reply p d u (queued.On k x ∷ rest) q n done out a h = ended p d u (Some code.Bad) h
next_reply p d u (queued.Off x ∷ rest) q n done out a h = ended p d u (Some code.Bad) h
next_reply p d u [] q n done out a h = ended p d u (Some code.Bad) h

silent_rest : (p : Path) (ms : List Queued) → list_any (is_on p) ms ≡ false → list_any (is_on p) (drop 1 ms) ≡ false
silent_rest p [] h = h
silent_rest p (m ∷ ms) h = by (is_on p m) h where
  by : (b : Bool) → (b || list_any (is_on p) ms) ≡ false → list_any (is_on p) ms ≡ false
  by true k = absurd (true≢false k)
  by false k = k

next_action : (p : Path) (d : ClientState) (u : Trail) (rest : List Queued) (q : ℕ) (news : ℕ → Notice) (o : Option ℕ) → Silent p d rest → Holds p d u → Next p u (action_answered d rest q news o)
next_action p d u rest q news None a h = ended p d u (Some code.Bad) h
next_action p d u rest q news (Some k) a h = choose p u (fits d q) _ _ (λ _. next p d u refl refl refl a h) (λ _. ended p d u (Some code.Bad) h)

-- a denied listen
abbrev dropped : Bool → ClientState → List Queued → ℕ × Path → ClientState
dropped b d rest f = let e = note (answered d rest) (notice.Denied f.0 limit.Listens) in record e { watches = (if b then without_watch f.1 d.watches else d.watches) }

next_dropped : (p : Path) (d : ClientState) (u : Trail) (rest : List Queued) (f : ℕ × Path) (b : Bool) → Silent p d rest → Holds p d u → Next p u (dropped b d rest f)
next_dropped p d u rest f b a h = by b (same_path f.1 p) refl where
  watched : (s : Bool) → same_path f.1 p ≡ s → watch_of p (without_watch f.1 d.watches) ≡ cond (not s) (watch_of p d.watches) None
  watched s e = watch_of-without p f.1 d.watches ∙ ap (λ s. cond (not s) (watch_of p d.watches) None) e

  by : (b s : Bool) → same_path f.1 p ≡ s → Next p u (dropped b d rest f)
  by false s e = next p d u refl refl refl a h
  by true true e = lost p (dropped true d rest f) u (watched true e)
  by true false e = next p d u refl (watched false e) refl a h

next_denied : (p : Path) (d : ClientState) (u : Trail) (rest : List Queued) (q : ℕ) (o : Option (ℕ × Path)) → Silent p d rest → Holds p d u → Next p u (listen_denied d rest q o)
next_denied p d u rest q None a h = ended p d u (Some code.Bad) h
next_denied p d u rest q (Some f) a h = choose p u (fits d q) _ _ (λ _. next_dropped p d u rest f (is_last f.1 rest) a h) (λ _. ended p d u (Some code.Bad) h)

next_limit : (p : Path) (d : ClientState) (u : Trail) (q : ℕ) (why : Limit) → Holds p d u → Next p u (judge_denied d d.queue q why)
next_limit p d u q limit.Plan h = next_action p d u (drop 1 d.queue) q denied (first_action d.queue) (silent_rest p d.queue) h
next_limit p d u q limit.Listens h = next_denied p d u (drop 1 d.queue) q (first_listen d.queue) (silent_rest p d.queue) h

next_off_done : (p : Path) (d : ClientState) (u : Trail) (q : ℕ) → Holds p d u → Next p u (judge_off_done d d.queue q)
next_off_done p d u q h = choose p u (fits d q && first_is_off d.queue) _ _ (λ _. next p d u refl refl refl (silent_rest p d.queue) h) (λ _. ended p d u (Some code.Bad) h)

-- ---- messages without an r

next_own_fault : (p : Path) (c : ClientState) (t : Trail) (reason : Code) → Holds p c t → Next p t (own_fault c reason)
next_own_fault p c t reason h =
    choose p t (is_opening c.phase) _ _ (λ e. next p c t refl refl (sym (opening_off c e)) (λ a. a) h)
    (λ _. choose p t (is_online c.phase) _ c (λ _. choose p t (ends_session reason) _ _ (λ _. ended p c t (Some reason) h) (λ _. next p c t refl refl refl (λ a. a) h)) (λ _. stays p c t h))

next_fault : (p : Path) (c : ClientState) (t : Trail) (session : Option SessionId) (reason : Code) → Holds p c t → Next p t (after_fault c session reason)
next_fault p c t None reason h = next p c t refl refl refl (λ a. a) h
next_fault p c t (Some s) reason h = choose p t (same_session s c.session) _ c (λ _. next_own_fault p c t reason h) (λ _. stays p c t h)

next_welcome : (p : Path) (c : ClientState) (t : Trail) (ops : ℕ) → is_opening c.phase ≡ true → Holds p c t → Next p t (after_welcome c ops)
next_welcome p c t ops e h =
    let off : is_online c.phase ≡ false = opening_off c e in
    let stopped : t.counts ≡ false = offline p c t h off in
    choose p t (is_fit c ops) _ _
    (λ _. keeps p c.seen (watch_of p c.watches) true _ t (welcomed stopped _))
    (λ _. next p c t refl refl (sym off) (λ a. a) h) where
      welcomed : t.counts ≡ false → (asked : Bool) → Agrees p c.seen (watch_of p c.watches) true asked t
      welcomed stopped asked = record { shows = h.shows; live = h.live; online = λ _. refl; unasked = λ k. absurd (true≢false (sym k ∙ stopped)) }

-- ---- messages of the stream

-- a message that is taken, and tells nothing of p
takes_silent : (p : Path) (c : ClientState) (t : Trail) (m : Down) → (t.counts ≡ true → value_told p m ≡ None) → Holds p c t → Holds p (bring c (number_in m)) (more t m)
takes_silent p c t m e h = passes p c.seen (watch_of p c.watches) (is_online c.phase) (list_any (is_on p) c.queue) t m e h

same_watch : (p : Path) (z : ℕ) {o q : Option Watch} (on asked : Bool) (t : Trail) → q ≡ o → Agrees p z o on asked t → Agrees p z q on asked t
same_watch p z on asked t e h = subst (λ q. Agrees p z q on asked t) (sym e) h

holds-push : (p : Path) (c : ClientState) (t : Trail) (s : SessionId) (r z : ℕ) (vs : List PathValue) → Rising vs → Holds p c t → Holds p (after_push (bring c z) z vs) (more t (down.Push s r z vs))
holds-push p c t s r z vs rises h = by (watch_of p c.watches) refl (value_in p vs) refl where
  m : Down
  m = down.Push s r z vs

  asked : Bool
  asked = list_any (is_on p) c.queue

  on : Bool
  on = is_online c.phase

  watched : Option Watch
  watched = watch_of p (fold tell_live c.watches vs)

  unchanged : watched ≡ watch_of p c.watches → (t.counts ≡ true → value_in p vs ≡ None) → Agrees p z watched on asked (more t m)
  unchanged e k = same_watch p z on asked (more t m) e (passes p c.seen (watch_of p c.watches) on asked t m k h)

  dead : is_live (watch_of p c.watches) ≡ false → Agrees p z watched on asked (more t m)
  dead d = unchanged (push_passed p c.watches vs d) (λ e. absurd (true≢false (sym e ∙ h.live ∙ d)))

  told_one : (w : Watch) (y : Rows Scalar) → watch_of p c.watches ≡ Some w → value_in p vs ≡ Some y → is_shown_live w.shown ≡ true → Agrees p z watched on asked (more t m)
  told_one w y o k l = same_watch p z on asked (more t m) (push_there p c.watches vs w y rises k o l) (tells p c.seen w on asked t m y k l (same_watch p c.seen on asked t (sym o) h))

  by : (o : Option Watch) → watch_of p c.watches ≡ o → (v : Option (Rows Scalar)) → value_in p vs ≡ v → Agrees p z watched on asked (more t m)
  by None o v k = dead (ap is_live o)
  by (Some w) o None k = unchanged (push_elsewhere p c.watches vs k) (λ _. k)
  by (Some w) o (Some y) k = live_or (is_shown_live w.shown) refl where
    live_or : (b : Bool) → is_shown_live w.shown ≡ b → Agrees p z watched on asked (more t m)
    live_or true l = told_one w y o k l
    live_or false l = dead (ap is_live o ∙ l)

-- the oldest message listens to x, so no messages of p's trail count where that is p
asked_apart : (p x : Path) (ms : List Queued) → listens_to x (first_listen ms) ≡ true → list_any (is_on p) ms ≡ false → same_path x p ≡ false
asked_apart p x [] l n = absurd (true≢false (sym l))
asked_apart p x (queued.Write k o ∷ ms) l n = absurd (true≢false (sym l))
asked_apart p x (queued.Try k attempt t ∷ ms) l n = absurd (true≢false (sym l))
asked_apart p x (queued.Left k o ∷ ms) l n = absurd (true≢false (sym l))
asked_apart p x (queued.Cancel k y ∷ ms) l n = absurd (true≢false (sym l))
asked_apart p x (queued.On k y ∷ ms) l n = ap (λ a. same_path a p) (sym (path_same y x l)) ∙ by (same_path y p) n where
  by : (b : Bool) → (b || list_any (is_on p) ms) ≡ false → b ≡ false
  by true e = e
  by false e = refl
asked_apart p x (queued.Off y ∷ ms) l n = absurd (true≢false (sym l))

last_unasked : (p x : Path) (rest : List Queued) → p ≡ x → is_last x rest ≡ true → list_any (is_on p) rest ≡ false
last_unasked p x rest e l = ap (λ a. list_any (is_on a) rest) e ∙ by (list_any (is_on x) rest) l where
  by : (b : Bool) → not b ≡ true → b ≡ false
  by true k = sym k
  by false k = refl

-- the Snap that answers the oldest message
next_answered : (p : Path) (c : ClientState) (t : Trail) (s : SessionId) (r z q : ℕ) (x : Path) (v : Rows Scalar) → is_online c.phase ≡ true → (t.counts ≡ true → same_path x p ≡ false) → Holds p c t
    → Next p (if same_path x p && is_last x (drop 1 c.queue) then record { messages = down.Snap s r z q x v ∷ []; counts = true } else more t (down.Snap s r z q x v))
    (if is_last x (drop 1 c.queue) then receiving.after_value (answered (bring c z) (drop 1 c.queue)) x z v (watch_of x c.watches) else answered (bring c z) (drop 1 c.queue))
next_answered p c t s r z q x v on apart h = by (same_path x p) refl (is_last x rest) refl where
  rest : List Queued
  rest = drop 1 c.queue

  m : Down
  m = down.Snap s r z q x v

  d : ClientState
  d = answered (bring c z) rest

  first : Trail
  first = record { messages = m ∷ []; counts = true }

  asked : Bool
  asked = list_any (is_on p) rest

  -- what is received for another path, or for p while its messages don't count
  silent : (t.counts ≡ true → value_told p m ≡ None) → Holds p d (more t m)
  silent e = rest_holds p (bring c z) (more t m) rest (silent_rest p c.queue) (takes_silent p c t m e h)

  first_there : p ≡ x → is_last x rest ≡ true → (o : Option Watch) → watch_of x c.watches ≡ o → Next p first (receiving.after_value d x z v o)
  first_there is l None e = lost p d first (ap (λ a. watch_of a c.watches) is ∙ e)
  first_there is l (Some w) e =
      let d' = receiving.after_value d x z v (Some w) in
      let there : watch_of p d'.watches ≡ Some (now v w) = ap (λ a. watch_of a d'.watches) is ∙ told_there x v c.watches w e in
      let heard : value_told p m ≡ Some v = ap (λ b. cond b (Some v) None) (ap (same_path p) (sym is) ∙ path_itself p) in
      stays p d' first (same_watch p z (is_online c.phase) asked first there (subst (λ b. Agrees p z (Some (now v w)) b asked first) (sym on) (starts p w asked m v heard (last_unasked p x rest is l))))

  elsewhere : same_path x p ≡ false → (o : Option Watch) → Next p (more t m) (receiving.after_value d x z v o)
  elsewhere n None = stays p d (more t m) (silent (λ _. ap (λ b. cond b (Some v) None) (path_flip x p n)))
  elsewhere n (Some w) =
      next p d (more t m) refl (told_elsewhere p x v c.watches (path_flip x p n)) refl (λ a. a) (silent (λ _. ap (λ b. cond b (Some v) None) (path_flip x p n)))

  by : (a : Bool) → same_path x p ≡ a → (l : Bool) → is_last x rest ≡ l → Next p (if a && l then first else more t m) (if l then receiving.after_value d x z v (watch_of x c.watches) else d)
  by true e true k = first_there (sym (path_same x p e)) k (watch_of x c.watches) refl
  by true e false k = stays p d (more t m) (silent (λ g. absurd (true≢false (sym e ∙ apart g))))
  by false e true k = elsewhere e (watch_of x c.watches)
  by false e false k = stays p d (more t m) (silent (λ _. ap (λ b. cond b (Some v) None) (path_flip x p e)))

abbrev snap_trail : Path → Trail → List Queued → Down → Path → Trail
snap_trail p t rest m x = if same_path x p && is_last x rest then record { messages = m ∷ []; counts = true } else more t m

next_snap : (p : Path) (c : ClientState) (t : Trail) (s : SessionId) (r z q : ℕ) (x : Path) (v : Rows Scalar) → is_online c.phase ≡ true → Holds p c t
    → Next p (with_snap p c t s r z q x v) (listen_answered (bring c z) (drop 1 c.queue) z q x v (first_listen c.queue))
next_snap p c t s r z q x v on h = by (first_listen c.queue) (λ l g. asked_apart p x c.queue l (h.unasked g)) where
  rest : List Queued
  rest = drop 1 c.queue

  over : Next p (more t (down.OffDone s r z q)) (unfit (bring c z))
  over = ended p (bring c z) (more t (down.OffDone s r z q)) (Some code.Bad) (takes_silent p c t (down.OffDone s r z q) (λ _. refl) h)

  by : (o : Option (ℕ × Path)) → (listens_to x o ≡ true → t.counts ≡ true → same_path x p ≡ false)
      → Next p (if fits c q && listens_to x o then snap_trail p t rest (down.Snap s r z q x v) x else more t (down.OffDone s r z q)) (listen_answered (bring c z) rest z q x v o)
  by None apart = none (fits c q) where
    none : (b : Bool) → Next p (if b && false then snap_trail p t rest (down.Snap s r z q x v) x else more t (down.OffDone s r z q)) (unfit (bring c z))
    none true = over
    none false = over
  by (Some f) apart = both p (fits c q && same_path f.1 x) _ _ _ _ (λ e. next_answered p c t s r z q x v on (apart (and_parts (fits c q) _ e).1) h) (λ _. over)

-- ---- steps

online_next : (c : ClientState) (s : SessionId) (r : ℕ) → is_next c s r ≡ true → is_online c.phase ≡ true
online_next c s r e = (and_parts (is_online c.phase) _ e).0

next_receive : (p : Path) (c : ClientState) (t : Trail) (m : Down) → IsMessage m → Holds p c t → Next p (with_message p c t m) (after_receive c m)
next_receive p c t (down.Welcome s z ops) i h =
    choose p t (is_opening c.phase && same_session s c.session) _ c (λ e. next_welcome p c t ops (and_parts (is_opening c.phase) _ e).0 h) (λ _. stays p c t h)
next_receive p c t (down.Reply s r z q n done out) i h =
    let m = down.Reply s r z q n done out in
    both p (is_next c s r) (more t m) t _ c (λ _. next_reply p (bring c z) (more t m) c.queue q n done out (λ a. a) (takes_silent p c t m (λ _. refl) h)) (λ _. stays p c t h)
next_receive p c t (down.Gone s r z why) i h =
    let m = down.Gone s r z why in both p (is_next c s r) (more t m) t _ c (λ _. ended p (bring c z) (more t m) None (takes_silent p c t m (λ _. refl) h)) (λ _. stays p c t h)
next_receive p c t (down.Fault session reason) i h = next_fault p c t session reason h
next_receive p c t (down.Armed s r z q) i h =
    let m = down.Armed s r z q in
    both p (is_next c s r) (more t m) t _ c (λ _. next_action p (bring c z) (more t m) (drop 1 c.queue) q armed (first_action c.queue) (silent_rest p c.queue) (takes_silent p c t m (λ _. refl) h)) (λ _. stays p c t h)
next_receive p c t (down.Denied s r z q why) i h =
    let m = down.Denied s r z q why in both p (is_next c s r) (more t m) t _ c (λ _. next_limit p (bring c z) (more t m) q why (takes_silent p c t m (λ _. refl) h)) (λ _. stays p c t h)
next_receive p c t (down.Snap s r z q x v) i h = both p (is_next c s r) (with_snap p c t s r z q x v) t _ c (λ e. next_snap p c t s r z q x v (online_next c s r e) h) (λ _. stays p c t h)
next_receive p c t (down.Push s r z vs) i h =
    let m = down.Push s r z vs in both p (is_next c s r) (more t m) t _ c (λ _. stays p (after_push (bring c z) z vs) (more t m) (holds-push p c t s r z vs i h)) (λ _. stays p c t h)
next_receive p c t (down.OffDone s r z q) i h =
    let m = down.OffDone s r z q in both p (is_next c s r) (more t m) t _ c (λ _. next_off_done p (bring c z) (more t m) q (takes_silent p c t m (λ _. refl) h)) (λ _. stays p c t h)

next_step : (p : Path) (c : ClientState) (t : Trail) (s : ClientStep) → IsClientStep s → Holds p c t → Next p (trail_step p c t s) (after c s)
next_step p c t (calls k) i h = choose p t (is_none (refusal c k)) (after_call c k) c (λ _. next_call p c t k h) (λ _. stays p c t h)
next_step p c t (receives m) i h = next_receive p c t m i h
next_step p c t hands_out_sends i h = next p c t refl refl refl (λ a. a) h
next_step p c t hands_out_notices i h = next p c t refl refl refl (λ a. a) h

holds_run : (p : Path) (c : ClientState) (t : Trail) (steps : List ClientStep) → AreMessages steps → Holds p c t → Holds p (run c steps) (trail p c t steps)
holds_run p c t [] i h = h
holds_run p c t (s ∷ steps) i h = holds_run p (after c s) (kept_for p (after c s) (trail_step p c t s)) steps (All-tail IsClientStep s steps i) (next_step p c t s (All-head IsClientStep s steps i) h)

pub views_hold : ViewsHold
views_hold client incarnation p steps i =
    (holds_run p (start client incarnation) nothing steps i (record { shows = refl; live = refl; online = λ e. absurd cc; unasked = λ _. refl })).shows
