-- Which messages of a session's list listen to a path.
use Rattle.std.proofs.Common.{if◌then◌else◌, refl, sym, ◌∙◌, ap, subst, ◌≡◌, ◌+◌, ◌-◌, ◌<◌, ◌≤◌, ℕ, zero, suc, Bool, true, false, not, cond, List, [], ◌∷◌, ◌++◌, map, length, drop, slice_get, ◌⊎◌, inl, inr, Option, Some, None, true≢false, arith, unwrap_or, ◌||◌}
use Rattle.std.specs.Option.{is_some, is_none}
use Rattle.std.specs.List.{list_any, AllByRecursion}
use Rattle.std.proofs.lemmas.Bool.{false_from_ne_true}
use Rattle.pres_ids.specs.declared.id.SessionId.{SessionId}
use Rattle.pres_tree.specs.Paths.{Path, same_path}
use Rattle.pres_tree.proofs.PathOrder.{path_same, path_itself, path_flip}
use Rattle.pres_write.specs.declared.op.Op.{Op}
use Rattle.pres_write.specs.declared.op.Op.TheVariants as op
use Rattle.pres_write.specs.declared.unconditional.Unconditional.TheVariants as unconditional
use Rattle.pres_write.specs.Transactions.{comparison}
use Rattle.pres_write.specs.Updates.{update_of}
use Rattle.pres_wire.specs.declared.up.Up.{Up}
use Rattle.pres_wire.specs.declared.up.Up.TheVariants as up
use Rattle.pres_client_state.specs.declared.ask.Ask.{Ask}
use Rattle.pres_client_state.specs.declared.queued.Queued.{Queued}
use Rattle.pres_client_state.specs.declared.queued.Queued.TheVariants as queued
use Rattle.pres_client_state.specs.declared.watch.Watch.{Watch}
use Rattle.pres_client_state.specs.Asks.{ask_of}
use Rattle.pres_client_state.specs.Queues.{is_on, message, messages, next_write}
use Rattle.pres_client_state.specs.Watches.{watch_of, fresh}
use Rattle.pres_client.specs.declared.call.Answer.{Answer}
use Rattle.pres_client.specs.declared.call.Answer.TheVariants as answer
use Rattle.pres_client.specs.declared.call.Call.{Call}
use Rattle.pres_client.specs.declared.call.Call.TheVariants as call
use Rattle.pres_client.specs.Clients.{ClientState, is_online, session_of, base_of, outstanding}
use Rattle.pres_client.specs.Calls.{refusal, after_call, after_answer, after_listen, after_unlisten, enqueue}
use Rattle.pres_client.specs.ReceivedMessages.{is_last}
use Rattle.pres_client.specs.Sends.{SendList, Unnumbered, numbered, op_messages, on_messages, opening, made_one, answered_one, made_by, made_step}
use Rattle.pres_client.specs.Steps.{ClientStep, calls, receives, hands_out_sends, hands_out_notices, after}
use Rattle.pres_client.specs.Views.{takes}
use Rattle.pres_client.proofs.Found.{watch_of-with, watch_of-without}
use Rattle.pres_client.proofs.SentSteps.{made_messages}
use Rattle.pres_world.proofs.Hears.{receive_hears, without_fewer}
use Rattle.pres_world.proofs.Backed.{get_front, get_last}
use Rattle.pres_world.proofs.Stands.{none_or_some, get_dropped, get_push, got_small}

-- the message listens to the path, or no more
abbrev pub ons : Path → Up → Bool
ons p (up.On s q x) = same_path x p
ons p _ = false

abbrev pub offs : Path → Up → Bool
offs p (up.Off s q x) = same_path x p
offs p _ = false

on_not_off : (p : Path) (m : Up) → ons p m ≡ true → offs p m ≡ false
on_not_off p (up.Hello s) h = refl
on_not_off p (up.Op s q n o) h = refl
on_not_off p (up.Bye s q) h = refl
on_not_off p (up.Left s q o) h = refl
on_not_off p (up.Cancel s q x) h = refl
on_not_off p (up.Beat s) h = refl
on_not_off p (up.On s q x) h = refl
on_not_off p (up.Off s q x) h = absurd (true≢false (sym h))

-- each of the list that listens no more has one after it that listens
abbrev pub Asked : List Up → Path → Type 0
Asked ms p = (k : ℕ) (m : Up) → slice_get ms k ≡ Some m → offs p m ≡ true → (j : ℕ) × (n : Up) × (k < j) × (slice_get ms j ≡ Some n) × (ons p n ≡ true)

-- none after message q names the path
abbrev pub Last : List Up → Path → ℕ → Type 0
Last ms p q = (k : ℕ) (m : Up) → slice_get ms k ≡ Some m → q ≤ k → (ons p m ≡ false) × (offs p m ≡ false)

-- ---- one step of a client that is Online before it and after it

abbrev Fewer : Path → ClientState → ClientState → Type 0
Fewer p c d = is_some (watch_of p d.watches) ≡ true → is_some (watch_of p c.watches) ≡ true

abbrev More : SendList → SendList → Unnumbered → Type 0
More t u f = u.messages ≡ t.messages ++ f (length t.messages + 1) ∷ []

-- the list stays, or has one more: that has nothing to do with the path, or listens to it again; or it is listened to
-- no more
abbrev Asks : Path → ClientState → ClientState → SendList → SendList → Type 0
Asks p c d t u =
    ((u.messages ≡ t.messages) × Fewer p c d)
    ⊎ (((f : Unnumbered) × More t u f × ((q : ℕ) → ons p (f q) ≡ false) × ((q : ℕ) → offs p (f q) ≡ false) × Fewer p c d)
    ⊎ (((f : Unnumbered) × More t u f × ((q : ℕ) → ons p (f q) ≡ true) × (is_some (watch_of p c.watches) ≡ false))
    ⊎ (is_some (watch_of p d.watches) ≡ false)))

-- and this many messages were taken
pub record Steps (p : Path) (c d : ClientState) (t u : SendList) (n : ℕ) : Type 0 where
  pub asks : Asks p c d t u
  pub taken : d.taken ≡ n

same : (p : Path) (c d : ClientState) (t : SendList) → d.watches ≡ c.watches → d.taken ≡ c.taken → Steps p c d t t c.taken
same p c d t w n = record { asks = inl (refl, λ h. ap (λ ws. is_some (watch_of p ws)) (sym w) ∙ h); taken = n }

one : (p : Path) (c d : ClientState) (t : SendList) (f : Unnumbered) → is_online c.phase ≡ true → ((q : ℕ) → ons p (f q) ≡ false) → ((q : ℕ) → offs p (f q) ≡ false) → d.watches ≡ c.watches → d.taken ≡ c.taken → Steps p c d t (made_one c t f) c.taken
one p c d t f on a b w n = record { asks = inr (inl (f, made_messages c t f on, a, b, λ h. ap (λ ws. is_some (watch_of p ws)) (sym w) ∙ h)); taken = n }

write_steps : (p : Path) (c d : ClientState) (t : SendList) (o : Op) → is_online c.phase ≡ true → d.watches ≡ c.watches → d.taken ≡ c.taken → Steps p c d t (made_one c t (λ q. up.Op c.session q (base_of c + length t.writes + 1) o)) c.taken
write_steps p c d t o on w n = one p c d t (λ q. up.Op c.session q (base_of c + length t.writes + 1) o) on (λ q. refl) (λ q. refl) w n

rewrite_made : (p : Path) (c d : ClientState) (t u v : SendList) (n : ℕ) → u.messages ≡ v.messages → Steps p c d t v n → Steps p c d t u n
rewrite_made p c d t u v n e h = record { asks = subst (λ ms. Asks p c d t (record u { messages = ms })) (sym e) h.asks; taken = h.taken }

answer_steps : (p : Path) (c : ClientState) (t : SendList) (k : ℕ) (given : Answer) (o : Option Ask) → is_online c.phase ≡ true → Steps p c (after_answer c k given o) t (answered_one c t given o) c.taken
answer_steps p c t k given None on = same p c c t refl refl
answer_steps p c t k answer.Abort (Some a) on = same p c _ t refl refl
answer_steps p c t k (answer.New new) (Some a) on = rewrite_made p c _ t _ _ _ refl (write_steps p c _ t (op.Tx (comparison a.path a.value new)) on refl refl)

listen_steps : (p : Path) (c : ClientState) (t : SendList) (x : Path) (o : Option Watch) → watch_of x c.watches ≡ o → is_online c.phase ≡ true
    → Steps p c (after_listen c x o) t (if is_none o then made_one c t (λ q. up.On c.session q x) else t) c.taken
listen_steps p c t x (Some w) e on = same p c _ t refl refl
listen_steps p c t x None e on = record { asks = by (same_path p x) refl; taken = taken (is_online c.phase) } where
  f : Unnumbered
  f = λ q. up.On c.session q x

  k : ℕ
  k = c.requests + 1

  d : ClientState
  d = after_listen c x None

  taken : (b : Bool) → (if b then enqueue c (queued.On k x) else c).taken ≡ c.taken
  taken true = refl
  taken false = refl

  by : (b : Bool) → same_path p x ≡ b → Asks p c d t (made_one c t f)
  by true i = inr (inr (inl (f, made_messages c t f on, (λ q. ap (λ y. same_path y p) (sym (path_same p x i)) ∙ path_itself p), ap (λ y. is_some (watch_of y c.watches)) (path_same p x i) ∙ ap is_some e)))
  by false i = inr (inl (f, made_messages c t f on, (λ q. path_flip p x i), (λ q. refl), λ h. ap is_some (sym (watch_of-with p x (fresh k) c.watches ∙ ap (λ b. cond b (Some (fresh k)) (watch_of p c.watches)) i)) ∙ h))

unlisten_steps : (p : Path) (c : ClientState) (t : SendList) (x : Path) (o : Option Watch) → is_online c.phase ≡ true
    → Steps p c (after_unlisten c x o) t (if is_none o then t else made_one c t (λ q. up.Off c.session q x)) c.taken
unlisten_steps p c t x None on = same p c c t refl refl
unlisten_steps p c t x (Some w) on = record { asks = by (same_path x p) refl; taken = taken (is_online c.phase) } where
  f : Unnumbered
  f = λ q. up.Off c.session q x

  d : ClientState
  d = after_unlisten c x (Some w)

  taken : (b : Bool) → (if b then enqueue c (queued.Off x) else c).taken ≡ c.taken
  taken true = refl
  taken false = refl

  by : (b : Bool) → same_path x p ≡ b → Asks p c d t (made_one c t f)
  by true i = inr (inr (inr (ap is_some (watch_of-without p x c.watches ∙ ap (λ b. cond (not b) (watch_of p c.watches) None) i))))
  by false i = inr (inl (f, made_messages c t f on, (λ q. refl), (λ q. i), without_fewer p x c.watches))

open_still : (p : Path) (c d : ClientState) (t : SendList) (b : Bool) → d.watches ≡ c.watches → d.taken ≡ c.taken → Steps p c (if b then c else d) t t c.taken
open_still p c d t true w n = same p c c t refl refl
open_still p c d t false w n = same p c d t w n

no_more : (c d e : ClientState) (b : Bool) → is_online d.phase ≡ false → is_online e.phase ≡ false → is_online (if b then d else e).phase ≡ true → ⊥
no_more c d e true f g h = true≢false (sym h ∙ f)
no_more c d e false f g h = true≢false (sym h ∙ g)

call_steps : (p : Path) (c : ClientState) (t : SendList) (k : Call) → is_online c.phase ≡ true → is_online (after_call c k).phase ≡ true → Steps p c (after_call c k) t (made_by c t k) c.taken
call_steps p c t (call.Set x draft) on still = rewrite_made p c _ t _ _ _ refl (write_steps p c (after_call c (call.Set x draft)) t (op.Set (x, draft)) on refl refl)
call_steps p c t (call.Update x places) on still = rewrite_made p c _ t _ _ _ refl (write_steps p c (after_call c (call.Update x places)) t (op.Update (update_of x places.items)) on refl refl)
call_steps p c t (call.Remove x) on still = rewrite_made p c _ t _ _ _ refl (write_steps p c (after_call c (call.Remove x)) t (op.Set (x, [])) on refl refl)
call_steps p c t (call.Transact x) on still = same p c _ t refl refl
call_steps p c t (call.Answer k given) on still = answer_steps p c t k given (ask_of k c.asks) on
call_steps p c t (call.OnDisconnectSet x draft) on still = one p c _ t (λ q. up.Left c.session q (unconditional.Set (x, draft))) on (λ q. refl) (λ q. refl) refl refl
call_steps p c t (call.OnDisconnectUpdate x places) on still = one p c _ t (λ q. up.Left c.session q (unconditional.Update (update_of x places.items))) on (λ q. refl) (λ q. refl) refl refl
call_steps p c t (call.OnDisconnectRemove x) on still = one p c _ t (λ q. up.Left c.session q (unconditional.Set (x, []))) on (λ q. refl) (λ q. refl) refl refl
call_steps p c t (call.OnDisconnectCancel x) on still = one p c _ t (λ q. up.Cancel c.session q x) on (λ q. refl) (λ q. refl) refl refl
call_steps p c t (call.Listen x) on still = listen_steps p c t x (watch_of x c.watches) refl on
call_steps p c t (call.Unlisten x) on still = unlisten_steps p c t x (watch_of x c.watches) on
call_steps p c t call.GoOnline on still = open_still p c _ t (is_some (session_of c)) refl refl
call_steps p c t call.GoOffline on still = absurd (no_more c _ _ (is_online c.phase) refl refl still)
call_steps p c t call.Lost on still = absurd (no_more c _ _ (is_online c.phase) refl refl still)
call_steps p c t call.Beat on still = same p c _ t refl refl
call_steps p c t call.Resend on still = same p c _ t refl refl

-- how many messages were taken after a step
abbrev pub count_after : ClientState → ClientStep → ℕ
count_after c (receives m) = if takes c m then c.taken + 1 else c.taken
count_after c (calls k) = c.taken
count_after c hands_out_sends = c.taken
count_after c hands_out_notices = c.taken

pub step_steps : (p : Path) (c : ClientState) (t : SendList) (s : ClientStep) → is_online c.phase ≡ true → is_online (after c s).phase ≡ true → Steps p c (after c s) t (made_step c t s) (count_after c s)
step_steps p c t (calls k) on still = by (is_none (refusal c k)) still where
  by : (b : Bool) → is_online (if b then after_call c k else c).phase ≡ true → Steps p c (if b then after_call c k else c) t (if b then made_by c t k else t) c.taken
  by true h = call_steps p c t k on h
  by false h = same p c c t refl refl
step_steps p c t (receives m) on still = let h = receive_hears c m on in record { asks = inl (refl, h.fewer p); taken = h.taken still }
step_steps p c t hands_out_sends on still = same p c _ t refl refl
step_steps p c t hands_out_notices on still = same p c _ t refl refl

-- ---- the list after the step

up_is : (x y : Up) → Some x ≡ Some y → x ≡ y
up_is x y e = ap (λ o. unwrap_or o x) e

pub asked_step : (p : Path) (c d : ClientState) (t u : SendList) (n : ℕ) → Steps p c d t u n → (is_some (watch_of p c.watches) ≡ true → Asked t.messages p) → is_some (watch_of p d.watches) ≡ true → Asked u.messages p
asked_step p c d t u n s h there = by s.asks where
  kept : (f : Unnumbered) → More t u f → ((q : ℕ) → offs p (f q) ≡ false) → ((k : ℕ) (m : Up) → slice_get t.messages k ≡ Some m → offs p m ≡ true → (j : ℕ) × (x : Up) × (k < j) × (slice_get (t.messages ++ f (length t.messages + 1) ∷ []) j ≡ Some x) × (ons p x ≡ true)) → Asked u.messages p
  kept f is plain old = subst (λ l. Asked l p) (sym is) (λ k m get off. by_place k m off (get_push t.messages (f (length t.messages + 1)) k m get)) where
    by_place : (k : ℕ) (m : Up) → offs p m ≡ true → ((k < length t.messages) × (slice_get t.messages k ≡ Some m)) ⊎ ((k ≡ length t.messages) × (f (length t.messages + 1) ≡ m)) → (j : ℕ) × (x : Up) × (k < j) × (slice_get (t.messages ++ f (length t.messages + 1) ∷ []) j ≡ Some x) × (ons p x ≡ true)
    by_place k m off (inl x) = old k m x.1 off
    by_place k m off (inr x) = absurd (true≢false (sym off ∙ ap (offs p) (sym x.1) ∙ plain (length t.messages + 1)))

  by : Asks p c d t u → Asked u.messages p
  by (inl x) = subst (λ l. Asked l p) (sym x.0) (h (x.1 there))
  by (inr (inl x)) = kept x.0 x.1 x.3 (λ k m get off. let on = h (x.4 there) k m get off in (on.0, on.1, on.2, get_front t.messages (x.0 (length t.messages + 1) ∷ []) on.0 on.1 on.3, on.4))
  by (inr (inr (inl x))) = kept x.0 x.1 (λ q. on_not_off p (x.0 q) (x.2 q)) (λ k m get off. (length t.messages, x.0 (length t.messages + 1), got_small t.messages k m get, get_last t.messages (x.0 (length t.messages + 1)), x.2 (length t.messages + 1)))
  by (inr (inr (inr x))) = absurd (true≢false (sym there ∙ x))

pub last_step : (p : Path) (c d : ClientState) (t u : SendList) (n : ℕ) → Steps p c d t u n → is_some (watch_of p c.watches) ≡ true → is_some (watch_of p d.watches) ≡ true → (q : ℕ) → Last t.messages p q → Last u.messages p q
last_step p c d t u n s here there q h = by s.asks where
  by : Asks p c d t u → Last u.messages p q
  by (inl x) = subst (λ l. Last l p q) (sym x.0) h
  by (inr (inl x)) = subst (λ l. Last l p q) (sym x.1) (λ k m get late. by_place k m late (get_push t.messages (x.0 (length t.messages + 1)) k m get)) where
    by_place : (k : ℕ) (m : Up) → q ≤ k → ((k < length t.messages) × (slice_get t.messages k ≡ Some m)) ⊎ ((k ≡ length t.messages) × (x.0 (length t.messages + 1) ≡ m)) → (ons p m ≡ false) × (offs p m ≡ false)
    by_place k m late (inl y) = h k m y.1 late
    by_place k m late (inr y) = (ap (ons p) (sym y.1) ∙ x.2 (length t.messages + 1), ap (offs p) (sym y.1) ∙ x.3 (length t.messages + 1))
  by (inr (inr (inl x))) = absurd (true≢false (sym here ∙ x.3))
  by (inr (inr (inr x))) = absurd (true≢false (sym there ∙ x))

-- ---- the list at the Welcome

numbered_on : (p : Path) (k : ℕ) (us : List Unnumbered) → AllByRecursion (λ u. (q : ℕ) → offs p (u q) ≡ false) us → (i : ℕ) (m : Up) → slice_get (numbered k us) i ≡ Some m → offs p m ≡ false
numbered_on p k [] h i m get = absurd (none_or_some m get)
numbered_on p k (u ∷ us) h zero m get = ap (offs p) (sym (up_is (u k) m get)) ∙ h.0 k
numbered_on p k (u ∷ us) h (suc i) m get = numbered_on p (k + 1) us h.1 i m get

ops_on : (p : Path) (s : SessionId) (n : ℕ) (os : List Op) → AllByRecursion (λ u. (q : ℕ) → offs p (u q) ≡ false) (op_messages s n os)
ops_on p s n [] = tt
ops_on p s n (o ∷ os) = ((λ q. refl), ops_on p s (n + 1) os)

ons_on : (p : Path) (s : SessionId) (ps : List Path) (us : List Unnumbered) → AllByRecursion (λ u. (q : ℕ) → offs p (u q) ≡ false) us → AllByRecursion (λ u. (q : ℕ) → offs p (u q) ≡ false) (on_messages s ps ++ us)
ons_on p s [] us h = h
ons_on p s (x ∷ ps) us h = ((λ q. refl), ons_on p s ps us h)

pub opening_asked : (p : Path) (d : ClientState) (t : SendList) → Asked (opening d t).messages p
opening_asked p d t k m get off = absurd (true≢false (sym off ∙ numbered_on p 1 (on_messages d.session (map (λ e. e.0) d.watches) ++ op_messages d.session (base_of d + d.answered + 1) (drop d.answered t.writes)) (ons_on p d.session (map (λ e. e.0) d.watches) _ (ops_on p d.session (base_of d + d.answered + 1) (drop d.answered t.writes))) k m get))

-- ---- the Snap that answers the last listen

on_waits : (p : Path) (s : SessionId) (q n : ℕ) (ms : List Queued) (j : ℕ) (m : Up) → slice_get (messages s q n ms) j ≡ Some m → ons p m ≡ true → list_any (is_on p) ms ≡ true
on_waits p s q n [] j m get h = absurd (none_or_some m get)
on_waits p s q n (x ∷ ms) zero m get h = by x (ap (ons p) (up_is (message s q n x) m get) ∙ h) where
  by : (x : Queued) → ons p (message s q n x) ≡ true → (is_on p x || list_any (is_on p) ms) ≡ true
  by (queued.Write k o) e = absurd (true≢false (sym e))
  by (queued.Try k attempt t) e = absurd (true≢false (sym e))
  by (queued.Left k o) e = absurd (true≢false (sym e))
  by (queued.Cancel k y) e = absurd (true≢false (sym e))
  by (queued.On k y) e = ap (λ b. b || list_any (is_on p) ms) e
  by (queued.Off y) e = absurd (true≢false (sym e))
on_waits p s q n (x ∷ ms) (suc j) m get h = or_true (is_on p x) (on_waits p s (q + 1) (next_write n x) ms j m get h) where
  or_true : (a : Bool) → list_any (is_on p) ms ≡ true → (a || list_any (is_on p) ms) ≡ true
  or_true true e = refl
  or_true false e = e

-- after a message whose answer is the next, and after which no other listen to the path waits, none names the path
pub accepted_last : (p : Path) (c : ClientState) (ms : List Up) → drop c.heard ms ≡ outstanding c → is_last p (drop 1 c.queue) ≡ true → Asked ms p → Last ms p (c.heard + 1)
accepted_last p c ms waits last asked k m get late = (listens, listens_no_more) where
  waiting : (k : ℕ) (m : Up) → slice_get ms k ≡ Some m → c.heard + 1 ≤ k → ons p m ≡ true → ⊥
  waiting k m get late on = by c.queue refl where
    j : ℕ
    j = k - (c.heard + 1)

    place : c.heard + suc j ≡ k
    place = omega (arith, late)

    there : slice_get (outstanding c) (suc j) ≡ Some m
    there = ap (λ l. slice_get l (suc j)) (sym waits) ∙ get_dropped c.heard ms (suc j) ∙ ap (slice_get ms) place ∙ get

    by : (q : List Queued) → c.queue ≡ q → ⊥
    by [] e = none_or_some m (sym (ap (λ l. slice_get (messages c.session (c.heard + 1) (base_of c + c.answered + 1) l) (suc j)) e) ∙ there)
    by (x ∷ rest) e =
        let found = on_waits p c.session (c.heard + 1 + 1) (next_write (base_of c + c.answered + 1) x) rest j m (sym (ap (λ l. slice_get (messages c.session (c.heard + 1) (base_of c + c.answered + 1) l) (suc j)) e) ∙ there) on in
        true≢false (sym last ∙ ap (λ l. not (list_any (is_on p) (drop 1 l))) e ∙ ap not found)

  listens : ons p m ≡ false
  listens = false_from_ne_true _ (λ on. waiting k m get late on)

  listens_no_more : offs p m ≡ false
  listens_no_more = false_from_ne_true _ (λ off. let next = asked k m get off in let l = next.2 in waiting next.0 next.1 next.3 (omega (arith, late, l)) next.4)
