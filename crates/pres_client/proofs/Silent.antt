-- Messages that come send nothing, but for the Welcome.
use Rattle.std.proofs.Common.{refl, ◌≡◌, ◌≤◌, ℕ, ◌+◌, arith, List, [], ◌∷◌, length, drop, Bool, true, false, ◌&&◌, if◌then◌else◌, true≢false, Option, Some, None}
use Rattle.pres_tree.specs.declared.scalar.Scalar.{Scalar}
use Rattle.pres_tree.specs.Paths.{Path, same_path}
use Rattle.pres_tree.specs.Rows.{Rows}
use Rattle.pres_write.specs.declared.outcome.Kept.{Kept}
use Rattle.pres_write.specs.declared.outcome.Kept.TheVariants.{Wrote, Stale}
use Rattle.pres_ids.specs.declared.id.SessionId.{SessionId}
use Rattle.pres_wire.specs.declared.down.Code.{Code}
use Rattle.pres_wire.specs.declared.down.Limit.{Limit}
use Rattle.pres_wire.specs.declared.down.Limit.TheVariants as limit
use Rattle.pres_wire.specs.declared.down.Down.{Down}
use Rattle.pres_wire.specs.declared.down.Down.TheVariants as down
use Rattle.pres_ids.specs.Ids.{same_session}
use Rattle.pres_client_state.specs.declared.notice.Notice.{Notice}
use Rattle.pres_client_state.specs.declared.queued.Queued.{Queued}
use Rattle.pres_client_state.specs.declared.queued.Queued.TheVariants as queued
use Rattle.pres_client_state.specs.declared.watch.Watch.{Watch}
use Rattle.pres_client_state.specs.Watches.{watch_of}
use Rattle.pres_client.specs.Clients.{ClientState, is_online, is_opening, most_sends}
use Rattle.pres_client.specs.ReceivedMessages as receiving
use Rattle.pres_client.specs.ReceivedMessages.{accepts, is_next, fits, fits_write, bring, is_last, first_listen, first_action, first_is_off, after_receive, after_welcome, after_fault, ends_session, judge_reply, action_answered, judge_denied, listen_denied, listen_answered, armed, denied}
use Rattle.pres_client.specs.Calls.{end_session}
use Rattle.pres_client.proofs.Welcomes.{few-welcome}

abbrev pub Silent : ClientState → ClientState → Type 0
Silent c d = d.sends ≡ c.sends

pub silent_if : (c : ClientState) (b : Bool) (x y : ClientState) → Silent c x → Silent c y → Silent c (if b then x else y)
silent_if c true x y h g = h
silent_if c false x y h g = g

pub silent_reply : (c d : ClientState) (ms : List Queued) (q n done : ℕ) (out : Kept) → Silent c d → Silent c (judge_reply d ms q n done out)
silent_reply c d (queued.Write k o ∷ rest) q n done Wrote h = silent_if c (fits_write d q n) _ _ h h
silent_reply c d (queued.Write k o ∷ rest) q n done (Stale held) h = silent_if c (fits_write d q n) _ _ h h
silent_reply c d (queued.Try k attempt x ∷ rest) q n done Wrote h = silent_if c (fits_write d q n) _ _ h h
silent_reply c d (queued.Try k attempt x ∷ rest) q n done (Stale held) h = silent_if c (fits_write d q n) _ _ (silent_if c _ _ _ h h) h
silent_reply c d (queued.Left k o ∷ rest) q n done out h = h
silent_reply c d (queued.Cancel k x ∷ rest) q n done out h = h
silent_reply c d (queued.On k x ∷ rest) q n done out h = h
silent_reply c d (queued.Off x ∷ rest) q n done out h = h
silent_reply c d [] q n done out h = h

pub silent_action : (c d : ClientState) (rest : List Queued) (q : ℕ) (news : ℕ → Notice) (o : Option ℕ) → Silent c d → Silent c (action_answered d rest q news o)
silent_action c d rest q news None h = h
silent_action c d rest q news (Some k) h = silent_if c (fits d q) _ _ h h

pub silent_listen_denied : (c d : ClientState) (rest : List Queued) (q : ℕ) (o : Option (ℕ × Path)) → Silent c d → Silent c (listen_denied d rest q o)
silent_listen_denied c d rest q None h = h
silent_listen_denied c d rest q (Some f) h = silent_if c (fits d q) _ _ h h

pub silent_denied : (c d : ClientState) (ms : List Queued) (q : ℕ) (why : Limit) → Silent c d → Silent c (judge_denied d ms q why)
silent_denied c d ms q limit.Plan h = silent_action c d (drop 1 ms) q denied (first_action ms) h
silent_denied c d ms q limit.Listens h = silent_listen_denied c d (drop 1 ms) q (first_listen ms) h

pub silent_told : (c d : ClientState) (x : Path) (z : ℕ) (v : Rows Scalar) (o : Option Watch) → Silent c d → Silent c (receiving.after_value d x z v o)
silent_told c d x z v None h = h
silent_told c d x z v (Some w) h = h

pub silent_snap : (c d : ClientState) (rest : List Queued) (z q : ℕ) (x : Path) (v : Rows Scalar) (o : Option (ℕ × Path)) → Silent c d → Silent c (listen_answered d rest z q x v o)
silent_snap c d rest z q x v None h = h
silent_snap c d rest z q x v (Some f) h =
    let e : ClientState = receiving.answered d rest in silent_if c (fits d q && same_path f.1 x) _ _ (silent_if c (is_last x rest) _ e (silent_told c e x z v (watch_of x d.watches) h) h) h

pub silent_fault : (c : ClientState) (session : Option SessionId) (reason : Code) → Silent c (after_fault c session reason)
silent_fault c None reason = refl
silent_fault c (Some s) reason = silent_if c (same_session s c.session) _ c (silent_if c (is_opening c.phase) _ _ refl (silent_if c (is_online c.phase) _ c (silent_if c (ends_session reason) _ _ refl refl) refl)) refl

few_silent : (c d : ClientState) → Silent c d → length d.sends ≤ length c.sends + most_sends c
few_silent c d h = rw h (omega arith)

few_next : (c d : ClientState) (s : SessionId) (r : ℕ) → Silent c d → length (if is_next c s r then d else c).sends ≤ length c.sends + most_sends c
few_next c d s r h = few_silent c (if is_next c s r then d else c) (silent_if c (is_next c s r) d c h refl)

-- no message makes more of them than the client had said
pub few-receive : (c : ClientState) (m : Down) → length (after_receive c m).sends ≤ length c.sends + most_sends c
few-receive c (down.Welcome s z ops) = by (is_opening c.phase) (same_session s c.session) refl where
  by : (b same : Bool) → is_opening c.phase ≡ b → length (if b && same then after_welcome c ops else c).sends ≤ length c.sends + most_sends c
  by true true e = few-welcome c ops e
  by true false e = omega arith
  by false same e = omega arith
few-receive c (down.Reply s r z q n done out) = few_next c _ s r (silent_reply c (bring c z) c.queue q n done out refl)
few-receive c (down.Gone s r z why) = few_next c (end_session (bring c z) None) s r refl
few-receive c (down.Fault session reason) = few_silent c (after_fault c session reason) (silent_fault c session reason)
few-receive c (down.Armed s r z q) = few_next c _ s r (silent_action c (bring c z) (drop 1 c.queue) q armed (first_action c.queue) refl)
few-receive c (down.Denied s r z q why) = few_next c _ s r (silent_denied c (bring c z) c.queue q why refl)
few-receive c (down.Snap s r z q x v) = few_next c _ s r (silent_snap c (bring c z) (drop 1 c.queue) z q x v (first_listen c.queue) refl)
few-receive c (down.Push s r z vs) = few_next c (receiving.after_push (bring c z) z vs) s r refl
few-receive c (down.OffDone s r z q) = few_next c (receiving.judge_off_done (bring c z) c.queue q) s r (silent_if c (fits (bring c z) q && first_is_off c.queue) _ _ refl refl)

-- a message that is not for the client now changes nothing
pub passed_over : (c : ClientState) (m : Down) → accepts c m ≡ false → after_receive c m ≡ c
passed_over c (down.Welcome s z ops) e = rw e refl
passed_over c (down.Reply s r z q n done out) e = rw e refl
passed_over c (down.Gone s r z why) e = rw e refl
passed_over c (down.Fault session reason) e = absurd (true≢false e)
passed_over c (down.Armed s r z q) e = rw e refl
passed_over c (down.Denied s r z q why) e = rw e refl
passed_over c (down.Snap s r z q x v) e = rw e refl
passed_over c (down.Push s r z vs) e = rw e refl
passed_over c (down.OffDone s r z q) e = rw e refl
