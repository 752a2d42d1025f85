-- What a message does to the paths that an open client listens to, and to the count of its stream.
use Rattle.std.proofs.Common.{if◌then◌else◌, refl, sym, ◌∙◌, ap, ◌≡◌, ◌+◌, ◌&&◌, ℕ, Bool, true, false, not, cond, List, [], ◌∷◌, fold, Option, Some, None, true≢false, drop, nat_lt}
use Rattle.std.specs.Option.{is_some, option_map}
use Rattle.std.proofs.lemmas.Bool.{and_parts}
use Rattle.pres_ids.specs.declared.id.SessionId.{SessionId}
use Rattle.pres_ids.specs.Ids.{same_session}
use Rattle.pres_tree.specs.declared.scalar.Scalar.{Scalar}
use Rattle.pres_tree.specs.Paths.{Path, same_path}
use Rattle.pres_tree.specs.Rows.{Rows}
use Rattle.pres_tree.proofs.PathOrder.{path_same}
use Rattle.pres_write.specs.declared.outcome.Kept.{Kept}
use Rattle.pres_write.specs.declared.outcome.Kept.TheVariants as kept
use Rattle.pres_write.specs.Transactions.{Comparison}
use Rattle.pres_wire.specs.declared.down.Code.{Code}
use Rattle.pres_wire.specs.declared.down.Down.{Down}
use Rattle.pres_wire.specs.declared.down.Down.TheVariants as down
use Rattle.pres_wire.specs.declared.down.Limit.{Limit}
use Rattle.pres_wire.specs.declared.down.Limit.TheVariants as limit
use Rattle.pres_wire.specs.declared.values.PathValue.{PathValue}
use Rattle.pres_client_state.specs.declared.queued.Queued.{Queued}
use Rattle.pres_client_state.specs.declared.queued.Queued.TheVariants as queued
use Rattle.pres_client_state.specs.declared.notice.Notice.{Notice}
use Rattle.pres_client_state.specs.declared.watch.Watch.{Watch}
use Rattle.pres_client_state.specs.Watches.{Watches, watch_of, without_watch, tell, is_live, frozen}
use Rattle.pres_client.specs.declared.client.Phase.{Phase}
use Rattle.pres_client.specs.declared.client.Phase.TheVariants as phase
use Rattle.pres_client.specs.Clients.{ClientState, is_online, is_opening, most_tries}
use Rattle.pres_client.specs.ReceivedMessages.{write_outcome, try_outcome, is_next, bring, fits, fits_write, answered, armed, judge_reply, judge_denied, action_answered, listen_denied, listen_answered, after_value, tell_live, after_push, is_last, first_action, first_listen, first_is_off, ends_session, own_fault, after_fault, after_welcome, after_receive}
use Rattle.pres_client.specs.Views.{takes}
use Rattle.pres_client.proofs.Found.{watch_of-without, watch_of-frozen, left, told_elsewhere}

-- no path more is listened to, and this many messages were taken
pub record Hears (c : ClientState) (n : ℕ) (d : ClientState) : Type 0 where
  pub fewer : (p : Path) → is_some (watch_of p d.watches) ≡ true → is_some (watch_of p c.watches) ≡ true
  pub taken : is_online d.phase ≡ true → d.taken ≡ n

offline : (d : ClientState) → d.phase ≡ phase.Off → is_online d.phase ≡ true → ⊥
offline d off on = true≢false (sym on ∙ ap is_online off)

keeps : (c : ClientState) (n : ℕ) (d : ClientState) → d.watches ≡ c.watches → d.taken ≡ n → Hears c n d
keeps c n d w t = record { fewer = λ p h. ap (λ ws. is_some (watch_of p ws)) (sym w) ∙ h; taken = λ on. t }

frozen_fewer : (p : Path) (seen : ℕ) (ws : Watches) → is_some (watch_of p (frozen seen ws)) ≡ true → is_some (watch_of p ws) ≡ true
frozen_fewer p seen ws h = by (watch_of p ws) (ap is_some (sym (watch_of-frozen p seen ws)) ∙ h) where
  by : (o : Option Watch) → is_some (option_map (left seen) o) ≡ true → is_some o ≡ true
  by None k = k
  by (Some w) k = refl

leaves : (c : ClientState) (n : ℕ) (d : ClientState) (seen : ℕ) → d.phase ≡ phase.Off → d.watches ≡ frozen seen c.watches → Hears c n d
leaves c n d seen off w = record { fewer = λ p h. frozen_fewer p seen c.watches (ap (λ ws. is_some (watch_of p ws)) (sym w) ∙ h); taken = λ on. absurd (offline d off on) }

stops : (c : ClientState) (n : ℕ) (d : ClientState) → d.phase ≡ phase.Off → d.watches ≡ c.watches → Hears c n d
stops c n d off w = record { fewer = λ p h. ap (λ ws. is_some (watch_of p ws)) (sym w) ∙ h; taken = λ on. absurd (offline d off on) }

changes : (c : ClientState) (n : ℕ) (d : ClientState) → ((p : Path) → is_some (watch_of p d.watches) ≡ true → is_some (watch_of p c.watches) ≡ true) → d.taken ≡ n → Hears c n d
changes c n d f t = record { fewer = f; taken = λ on. t }

choose : (c : ClientState) (n : ℕ) (b : Bool) (x y : ClientState) → (b ≡ true → Hears c n x) → (b ≡ false → Hears c n y) → Hears c n (if b then x else y)
choose c n true x y f g = f refl
choose c n false x y f g = g refl

-- ---- lists of watches

tell_none : (x : Path) (v : Rows Scalar) (ws : Watches) → watch_of x ws ≡ None → tell x v ws ≡ ws
tell_none x v ws e = rw e refl

tell_fewer : (p x : Path) (v : Rows Scalar) (ws : Watches) → is_some (watch_of p (tell x v ws)) ≡ true → is_some (watch_of p ws) ≡ true
tell_fewer p x v ws h = by (same_path p x) refl (watch_of x ws) refl where
  by : (b : Bool) → same_path p x ≡ b → (o : Option Watch) → watch_of x ws ≡ o → is_some (watch_of p ws) ≡ true
  by false e o k = ap is_some (sym (told_elsewhere p x v ws e)) ∙ h
  by true e None k = ap (λ l. is_some (watch_of p l)) (sym (tell_none x v ws k)) ∙ h
  by true e (Some w) k = ap (λ y. is_some (watch_of y ws)) (path_same p x e) ∙ ap is_some k

live_fewer : (p : Path) (ws : Watches) (v : PathValue) → is_some (watch_of p (tell_live ws v)) ≡ true → is_some (watch_of p ws) ≡ true
live_fewer p ws v h = by (is_live (watch_of v.path ws)) h where
  by : (b : Bool) → is_some (watch_of p (if b then tell v.path v.value ws else ws)) ≡ true → is_some (watch_of p ws) ≡ true
  by true k = tell_fewer p v.path v.value ws k
  by false k = k

push_fewer : (p : Path) (ws : Watches) (vs : List PathValue) → is_some (watch_of p (fold tell_live ws vs)) ≡ true → is_some (watch_of p ws) ≡ true
push_fewer p ws [] h = h
push_fewer p ws (v ∷ vs) h = live_fewer p ws v (push_fewer p (tell_live ws v) vs h)

pub without_fewer : (p x : Path) (ws : Watches) → is_some (watch_of p (without_watch x ws)) ≡ true → is_some (watch_of p ws) ≡ true
without_fewer p x ws h = by (same_path x p) (ap is_some (sym (watch_of-without p x ws)) ∙ h) where
  by : (b : Bool) → is_some (cond (not b) (watch_of p ws) None) ≡ true → is_some (watch_of p ws) ≡ true
  by true k = absurd (true≢false (sym k))
  by false k = k

-- ---- messages

write_hears : (c : ClientState) (z k : ℕ) (rest : List Queued) (done : ℕ) (out : Kept) → Hears c (c.taken + 1) (write_outcome (bring c z) k rest done out)
write_hears c z k rest done kept.Wrote = keeps c _ _ refl refl
write_hears c z k rest done (kept.Stale held) = leaves c _ _ z refl refl

try_hears : (c : ClientState) (z k attempt : ℕ) (t : Comparison) (rest : List Queued) (done : ℕ) (out : Kept) → Hears c (c.taken + 1) (try_outcome (bring c z) k attempt t rest done out)
try_hears c z k attempt t rest done kept.Wrote = keeps c _ _ refl refl
try_hears c z k attempt t rest done (kept.Stale held) = choose c _ (nat_lt attempt most_tries) _ _ (λ _. keeps c _ _ refl refl) (λ _. keeps c _ _ refl refl)

reply_hears : (c : ClientState) (z : ℕ) (queue : List Queued) (q n done : ℕ) (out : Kept) → Hears c (c.taken + 1) (judge_reply (bring c z) queue q n done out)
reply_hears c z [] q n done out = leaves c _ _ z refl refl
reply_hears c z (queued.Write k o ∷ rest) q n done out = choose c _ (fits_write (bring c z) q n) _ _ (λ _. write_hears c z k rest done out) (λ _. leaves c _ _ z refl refl)
reply_hears c z (queued.Try k attempt t ∷ rest) q n done out = choose c _ (fits_write (bring c z) q n) _ _ (λ _. try_hears c z k attempt t rest done out) (λ _. leaves c _ _ z refl refl)
reply_hears c z (queued.Left k o ∷ rest) q n done out = leaves c _ _ z refl refl
reply_hears c z (queued.Cancel k p ∷ rest) q n done out = leaves c _ _ z refl refl
reply_hears c z (queued.On k p ∷ rest) q n done out = leaves c _ _ z refl refl
reply_hears c z (queued.Off p ∷ rest) q n done out = leaves c _ _ z refl refl

action_hears : (c : ClientState) (z : ℕ) (rest : List Queued) (q : ℕ) (note : ℕ → Notice) (k : Option ℕ) → Hears c (c.taken + 1) (action_answered (bring c z) rest q note k)
action_hears c z rest q note None = leaves c _ _ z refl refl
action_hears c z rest q note (Some k) = choose c _ (fits (bring c z) q) _ _ (λ _. keeps c _ _ refl refl) (λ _. leaves c _ _ z refl refl)

denied_fewer : (p x : Path) (ws : Watches) (b : Bool) → is_some (watch_of p (if b then without_watch x ws else ws)) ≡ true → is_some (watch_of p ws) ≡ true
denied_fewer p x ws true h = without_fewer p x ws h
denied_fewer p x ws false h = h

denied_hears : (c : ClientState) (z : ℕ) (rest : List Queued) (q : ℕ) (f : Option (ℕ × Path)) → Hears c (c.taken + 1) (listen_denied (bring c z) rest q f)
denied_hears c z rest q None = leaves c _ _ z refl refl
denied_hears c z rest q (Some f) = choose c _ (fits (bring c z) q) _ _ (λ _. changes c _ _ (λ p h. denied_fewer p f.1 c.watches (is_last f.1 rest) h) refl) (λ _. leaves c _ _ z refl refl)

limit_hears : (c : ClientState) (z q : ℕ) (why : Limit) → Hears c (c.taken + 1) (judge_denied (bring c z) c.queue q why)
limit_hears c z q limit.Plan = action_hears c z (drop 1 c.queue) q _ (first_action c.queue)
limit_hears c z q limit.Listens = denied_hears c z (drop 1 c.queue) q (first_listen c.queue)

told_hears : (c : ClientState) (z : ℕ) (rest : List Queued) (x : Path) (v : Rows Scalar) (w : Option Watch) → Hears c (c.taken + 1) (after_value (answered (bring c z) rest) x z v w)
told_hears c z rest x v None = keeps c _ _ refl refl
told_hears c z rest x v (Some w) = changes c _ _ (λ p h. tell_fewer p x v c.watches h) refl

snap_hears : (c : ClientState) (z : ℕ) (rest : List Queued) (q : ℕ) (p : Path) (v : Rows Scalar) (f : Option (ℕ × Path)) → Hears c (c.taken + 1) (listen_answered (bring c z) rest z q p v f)
snap_hears c z rest q p v None = leaves c _ _ z refl refl
snap_hears c z rest q p v (Some f) = choose c _ (fits (bring c z) q && same_path f.1 p) _ _ (λ _. choose c _ (is_last p rest) _ _ (λ _. told_hears c z rest p v (watch_of p c.watches)) (λ _. keeps c _ _ refl refl)) (λ _. leaves c _ _ z refl refl)

fault_hears : (c : ClientState) (reason : Code) → Hears c c.taken (own_fault c reason)
fault_hears c reason =
    choose c _ (is_opening c.phase) _ _ (λ _. stops c _ _ refl refl)
    (λ _. choose c _ (is_online c.phase) _ c (λ _. choose c _ (ends_session reason) _ _ (λ _. leaves c _ _ c.seen refl refl) (λ _. keeps c _ _ refl refl)) (λ _. keeps c _ c refl refl))

faulted_hears : (c : ClientState) (s : Option SessionId) (reason : Code) → Hears c c.taken (after_fault c s reason)
faulted_hears c None reason = keeps c _ _ refl refl
faulted_hears c (Some s) reason = choose c _ (same_session s c.session) (own_fault c reason) c (λ _. fault_hears c reason) (λ _. keeps c _ c refl refl)

pub both_phases : (p : Phase) → is_online p ≡ true → is_opening p ≡ true → ⊥
both_phases phase.Online e f = true≢false (sym f)
both_phases phase.Opening e f = true≢false (sym e)
both_phases phase.Off e f = true≢false (sym e)

next_hears : (c : ClientState) (b : Bool) (d : ClientState) → Hears c (c.taken + 1) d → Hears c (if b then c.taken + 1 else c.taken) (if b then d else c)
next_hears c true d h = h
next_hears c false d h = keeps c _ c refl refl

pub receive_hears : (c : ClientState) (m : Down) → is_online c.phase ≡ true → Hears c (if takes c m then c.taken + 1 else c.taken) (after_receive c m)
receive_hears c (down.Welcome s z ops) on = choose c c.taken (is_opening c.phase && same_session s c.session) (after_welcome c ops) c (λ e. absurd (both_phases c.phase on (and_parts (is_opening c.phase) _ e).0)) (λ _. keeps c _ c refl refl)
receive_hears c (down.Reply s r z q n done out) on = next_hears c (is_next c s r) _ (reply_hears c z c.queue q n done out)
receive_hears c (down.Gone s r z why) on = next_hears c (is_next c s r) _ (leaves c _ _ z refl refl)
receive_hears c (down.Fault session reason) on = faulted_hears c session reason
receive_hears c (down.Armed s r z q) on = next_hears c (is_next c s r) _ (action_hears c z (drop 1 c.queue) q armed (first_action c.queue))
receive_hears c (down.Denied s r z q why) on = next_hears c (is_next c s r) _ (limit_hears c z q why)
receive_hears c (down.Snap s r z q p v) on = next_hears c (is_next c s r) _ (snap_hears c z (drop 1 c.queue) q p v (first_listen c.queue))
receive_hears c (down.Push s r z vs) on = next_hears c (is_next c s r) (after_push (bring c z) z vs) (changes c _ _ (λ p h. push_fewer p c.watches vs h) refl)
receive_hears c (down.OffDone s r z q) on = next_hears c (is_next c s r) _ (choose c _ (fits (bring c z) q && first_is_off c.queue) _ _ (λ _. keeps c _ _ refl refl) (λ _. leaves c _ _ z refl refl))
