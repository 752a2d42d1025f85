-- Whatever happens to a new world, it is safe.
use Rattle.std.proofs.Common.{refl, sym, ◌∙◌, ap, subst, ◌≡◌, ℕ, zero, suc, List, [], ◌∷◌, ◌++◌, Bool, true, false, cond, not, ◌&&◌, inl, inr, Option, Some, None, arith, unwrap_or, append_assoc, append-nil}
use Rattle.std.specs.List.{AllByRecursion}
use Rattle.pres_ids.specs.declared.id.SessionId.{SessionId}
use Rattle.pres_ids.specs.Ids.{ClientId}
use Rattle.pres_wire.specs.declared.up.Up.{Up}
use Rattle.pres_wire.specs.declared.down.Down.{Down}
use Rattle.pres_wire.specs.declared.down.Code.{Code}
use Rattle.pres_wire.specs.declared.down.Code.TheVariants as code
use Rattle.pres_log.specs.declared.entry.Entry.{Entry}
use Rattle.pres_log.specs.Faults.{code_of}
use Rattle.pres_log.specs.Logs.{Log, entries, item_at}
use Rattle.pres_log.proofs.Entries.{entries-push}
use Rattle.pres_server.specs.declared.input.Input.{Input}
use Rattle.pres_server.specs.declared.input.Input.TheVariants as input
use Rattle.pres_history.specs.ServerStates.{ServerState}
use Rattle.pres_server.specs.ServerStates.{heard_from}
use Rattle.pres_history.specs.LegalLog.{MayFollow, IsLegal}
use Rattle.pres_history.specs.Replays.{made_from}
use Rattle.pres_history.specs.Streams.{answers}
use Rattle.pres_server.specs.Turns.{Decision, refused, quiet, makes}
use Rattle.pres_history.specs.Turns.{turn, moment_of, batch_of, state_after}
use Rattle.pres_history.proofs.LegalLogs.{may_follow, legal_after}
use Rattle.pres_client.specs.Clients.{ClientState as Client}
use Rattle.pres_client.specs.Calls.{after_call}
use Rattle.pres_client.specs.ReceivedMessages.{accepts, after_receive}
use Rattle.pres_world.specs.declared.event.Ending.{Ending}
use Rattle.pres_world.specs.declared.event.Ending.TheVariants as ending
use Rattle.pres_world.specs.declared.event.Event.{Event}
use Rattle.pres_world.specs.declared.event.Event.TheVariants as event
use Rattle.pres_world.specs.declared.fault.WorldFault.{WorldFault}
use Rattle.pres_world.specs.declared.fault.WorldFault.TheVariants as fault
use Rattle.pres_world.specs.WorldClients.{acknowledged, is_fault}
use Rattle.pres_world.specs.Safe.{CameFromMessage}
use Rattle.pres_world.specs.ServerSides.{ServerSideState, fault_for, turned, served, served_by, lost, checkpointed, EndsAll, IsRestarted}
use Rattle.pres_world.specs.Worlds.{World, IsStep, IsStop, IsRefused, becomes, new_world}
use Rattle.pres_world.proofs.Backed.{all_front, all_into, all_at, sure}
use Rattle.pres_world.proofs.Transcripts.{Vouched, vouched_front, answers_vouched}
use Rattle.pres_world.proofs.Sent.{ComesFrom, made_sent, sent_front}

-- ---- the server's part

-- the history is legal and the server's, and what went out says of writes and of actions what is so
pub record Sound (w : ServerSideState) : Type 0 where
  pub legal : IsLegal w.history
  pub its_log : (s : ServerState) → w.server ≡ Some s → s.log ≡ w.history
  pub downs : AllByRecursion (Vouched (entries w.history)) w.downs

-- it is so afterwards, and the history has more entries, which were made of what was sent
pub record Grows (ups : List Up) (w v : ServerSideState) : Type 0 where
  pub sound : Sound v
  pub more : List Entry
  pub grown : entries v.history ≡ entries w.history ++ more
  pub sent : AllByRecursion (CameFromMessage ups) more

same : (ups : List Up) (w : ServerSideState) → Sound w → Grows ups w w
same ups w h = record { sound = h; more = []; grown = sym (append-nil (entries w.history)); sent = tt }

-- the history stays, and messages go out
stays : (ups : List Up) (w v : ServerSideState) (out : List Down) → Sound w → v.history ≡ w.history → ((t : ServerState) → v.server ≡ Some t → t.log ≡ v.history) → v.downs ≡ w.downs ++ out → AllByRecursion (Vouched (entries w.history)) out → Grows ups w v
stays ups w v out h is log sent backed = record {
  sound = record {
    legal = subst IsLegal (sym is) h.legal;
    its_log = log;
    downs = subst (λ l. AllByRecursion (Vouched (entries l)) v.downs) (sym is) (subst (AllByRecursion (Vouched (entries w.history))) (sym sent) (all_front (Vouched (entries w.history)) w.downs out h.downs backed));
  };
  more = [];
  grown = ap entries is ∙ sym (append-nil (entries w.history));
  sent = tt;
}

-- a batch is committed, and messages go out
grows : (ups : List Up) (w v : ServerSideState) (m : ℕ) (es : List Entry) (out : List Down) → AllByRecursion (CameFromMessage ups) es → Sound w → MayFollow w.history (batch_of w.history m es) → v.history ≡ w.history ++ batch_of w.history m es ∷ [] → ((t : ServerState) → v.server ≡ Some t → t.log ≡ v.history) → v.downs ≡ w.downs ++ out → AllByRecursion (Vouched (entries w.history ++ es)) out → Grows ups w v
grows ups w v m es out made h follows is log sent backed = record {
  sound = record {
    legal = subst IsLegal (sym is) (legal_after w.history (batch_of w.history m es) h.legal follows);
    its_log = log;
    downs = subst (λ l. AllByRecursion (Vouched l) v.downs) (sym all) (subst (AllByRecursion (Vouched (entries w.history ++ es))) (sym sent) (all_front (Vouched (entries w.history ++ es)) w.downs out (all_into (Vouched (entries w.history)) (Vouched (entries w.history ++ es)) w.downs (vouched_front (entries w.history) es) h.downs) backed));
  };
  more = es;
  grown = all;
  sent = made;
} where
  all : entries v.history ≡ entries w.history ++ es
  all = ap entries is ∙ entries-push w.history (batch_of w.history m es)

fault_backed : (es : List Entry) (s : Option SessionId) (c : Code) → AllByRecursion (Vouched es) (fault_for s c)
fault_backed es None c = tt
fault_backed es (Some s) c = ((tt, tt), tt)

none_some : (s : ServerState) → None ≡ Some s → ⊥
none_some s e = grind arith

its : (s t : ServerState) → Some s ≡ Some t → t.log ≡ s.log
its s t e = sym (ap (λ o. (unwrap_or o t).log) e)

turned_grows : (ups : List Up) (w : ServerSideState) (s : ServerState) (i : Input) (now : ℕ) (e : Ending) → ComesFrom ups i → Sound w → s.log ≡ w.history → Grows ups w (turned e w.base w.downs (turn s i now) s (moment_of s.log now) i)
turned_grows ups w s i now e from h is = by (turn s i now) refl e where
  m : ℕ
  m = moment_of s.log now

  by : (d : Decision) → turn s i now ≡ d → (e : Ending) → Grows ups w (turned e w.base w.downs d s m i)
  by (makes es) k ending.Answered = made (answers (entries s.log) es) (λ t x. its (state_after s m es) t x) refl backed where
    follows : MayFollow w.history (batch_of w.history m es)
    follows = subst (λ l. MayFollow l (batch_of l m es)) is (may_follow s i now es (subst IsLegal (sym is) h.legal) k)

    backed : AllByRecursion (Vouched (entries w.history ++ es)) (answers (entries s.log) es)
    backed = subst (λ l. AllByRecursion (Vouched (entries w.history ++ es)) (answers (entries l) es)) (sym is) (answers_vouched (entries w.history) m es (sure w.history h.legal) follows.allowed)

    made : (out : List Down) → ((t : ServerState) → Some (state_after s m es) ≡ Some t → t.log ≡ (state_after s m es).log) → w.downs ++ out ≡ w.downs ++ out → AllByRecursion (Vouched (entries w.history ++ es)) out → Grows ups w (record { server = Some (state_after s m es); base = w.base; history = (state_after s m es).log; downs = w.downs ++ out })
    made out log sent b = grows ups w _ m es out (made_sent ups s i now es from k) h follows (ap (λ l. l ++ batch_of l m es ∷ []) is) log sent b
  by (makes es) k ending.Stopped = grows ups w _ m es [] (made_sent ups s i now es from k) h follows (ap (λ l. l ++ batch_of l m es ∷ []) is) (λ t x. absurd (none_some t x)) (sym (append-nil w.downs)) tt where
    follows : MayFollow w.history (batch_of w.history m es)
    follows = subst (λ l. MayFollow l (batch_of l m es)) is (may_follow s i now es (subst IsLegal (sym is) h.legal) k)
  by (makes es) k ending.Refused = stays ups w _ (fault_for (heard_from i) code.Busy) h is (λ t x. its s t x) refl (fault_backed (entries w.history) (heard_from i) code.Busy)
  by quiet k ending.Answered = stays ups w _ [] h is (λ t x. its _ t x) refl tt
  by quiet k ending.Stopped = stays ups w _ [] h is (λ t x. absurd (none_some t x)) (sym (append-nil w.downs)) tt
  by quiet k ending.Refused = stays ups w _ [] h is (λ t x. its _ t x) refl tt
  by (refused f) k ending.Answered = stays ups w _ (fault_for (heard_from i) (code_of f)) h is (λ t x. its s t x) refl (fault_backed (entries w.history) (heard_from i) (code_of f))
  by (refused f) k ending.Stopped = stays ups w _ [] h is (λ t x. absurd (none_some t x)) (sym (append-nil w.downs)) tt
  by (refused f) k ending.Refused = stays ups w _ (fault_for (heard_from i) (code_of f)) h is (λ t x. its s t x) refl (fault_backed (entries w.history) (heard_from i) (code_of f))

pub served_grows : (ups : List Up) (w : ServerSideState) (i : Input) (now : ℕ) (e : Ending) → ComesFrom ups i → Sound w → Grows ups w (served w i now e)
served_grows ups w i now e from h = by w.server refl where
  by : (o : Option ServerState) → w.server ≡ o → Grows ups w (served_by o w i now e)
  by None k = same ups w h
  by (Some s) k = turned_grows ups w s i now e from h (h.its_log s k)

pub lost_grows : (ups : List Up) (found : List SessionId) (w : ServerSideState) (now : ℕ) (e : Ending) → Sound w → Grows ups w (lost found w now e)
lost_grows ups [] w now e h = same ups w h
lost_grows ups (s ∷ more) w now e h = served_grows ups w (input.Lost s) now e tt h

-- a log that is longer by these entries, which were made of what was sent
record Longer (ups : List Up) (old new : Log) : Type 0 where
  pub legal : IsLegal new
  pub more : List Entry
  pub grown : entries new ≡ entries old ++ more
  pub sent : AllByRecursion (CameFromMessage ups) more

ended_longer : (ups : List Up) (now : ℕ) (cs : List ClientId) (s t : ServerState) → IsLegal s.log → EndsAll now cs s t → Longer ups s.log t.log
ended_longer ups now [] s t legal h = subst (λ x. Longer ups s.log x.log) (sym h.0) (record { legal = legal; more = []; grown = sym (append-nil (entries s.log)); sent = tt })
ended_longer ups now (c ∷ cs) s t legal h =
    let m = moment_of s.log now in
    let batch = batch_of s.log m h.0 in
    let follows = may_follow s (input.Restart c) now h.0 legal h.2 in
    let rest = ended_longer ups now cs (state_after s m h.0) t (legal_after s.log batch legal follows) h.3 in
    record { legal = rest.legal; more = h.0 ++ rest.more; grown = rest.grown ∙ ap (λ l. l ++ rest.more) (entries-push s.log batch) ∙ append_assoc (entries s.log) h.0 rest.more; sent = all_front (CameFromMessage ups) h.0 rest.more (made_sent ups s (input.Restart c) now h.0 tt h.2) rest.sent }

pub restarted_grows : (ups : List Up) (w v : ServerSideState) (now : ℕ) → Sound w → IsRestarted w now v → Grows ups w v
restarted_grows ups w v now h k =
    let longer = ended_longer ups now k.1 (made_from w.history) k.2 h.legal k.3 in
    subst (Grows ups w) (sym k.4) (record {
      sound = record {
        legal = longer.legal;
        its_log = λ t x. its k.2 t x;
        downs = subst (λ l. AllByRecursion (Vouched l) w.downs) (sym longer.grown) (all_into (Vouched (entries w.history)) (Vouched (entries w.history ++ longer.more)) w.downs (vouched_front (entries w.history) longer.more) h.downs);
      };
      more = longer.more;
      grown = longer.grown;
      sent = longer.sent;
    })

-- a base is kept
pub checkpointed_grows : (ups : List Up) (w : ServerSideState) → Sound w → Grows ups w (checkpointed w)
checkpointed_grows ups w h = stays ups w (checkpointed w) [] h refl h.its_log (sym (append-nil w.downs)) tt

-- ---- worlds

pub record Honest (w : World) : Type 0 where
  pub sound : Sound w.serving
  pub acks : AllByRecursion (Vouched (entries w.serving.history)) w.acks
  pub sent : AllByRecursion (CameFromMessage w.ups) (entries w.serving.history)

pub honest_by : (w : World) (v : ServerSideState) → Honest w → Grows w.ups w.serving v → Honest (record w { serving = v })
honest_by w v h g = record {
  sound = g.sound;
  acks = subst (λ l. AllByRecursion (Vouched l) w.acks) (sym g.grown) (all_into (Vouched (entries w.serving.history)) (Vouched (entries w.serving.history ++ g.more)) w.acks (vouched_front (entries w.serving.history) g.more) h.acks);
  sent = subst (AllByRecursion (CameFromMessage w.ups)) (sym g.grown) (all_front (CameFromMessage w.ups) (entries w.serving.history) g.more h.sent g.sent);
}

-- a client sends more
becomes_honest : (w : World) (id : ClientId) (c : Client) → Honest w → Honest (becomes w id c)
becomes_honest w id c h = record { sound = h.sound; acks = h.acks; sent = all_into (CameFromMessage w.ups) (CameFromMessage (w.ups ++ c.sends)) (entries w.serving.history) (sent_front w.ups c.sends) h.sent }

pub item_backed : (es : List Entry) (ms : List Down) (k : ℕ) (m : Down) → AllByRecursion (Vouched es) ms → item_at ms k ≡ Some m → Vouched es m
item_backed es ms zero m h get = absurd (none get) where
  none : None ≡ Some m → ⊥
  none e = grind arith
item_backed es ms (suc i) m h get = all_at (Vouched es) ms i m h get

pub item_sent : (ups : List Up) (es : List Entry) (k : ℕ) (e : Entry) → AllByRecursion (CameFromMessage ups) es → item_at es k ≡ Some e → CameFromMessage ups e
item_sent ups es zero e h get = absurd (none get) where
  none : None ≡ Some e → ⊥
  none x = grind arith
item_sent ups es (suc i) e h get = all_at (CameFromMessage ups) es i e h get

ack_backed : (es : List Entry) (c : Client) (m : Down) → Vouched es m → AllByRecursion (Vouched es) (acknowledged c m)
ack_backed es c m h = by (accepts c m && not (is_fault m)) where
  by : (b : Bool) → AllByRecursion (Vouched es) (cond b (m ∷ []) [])
  by true = (h, tt)
  by false = tt

pub step_honest : (w : World) (e : Event) (v : World) → Honest w → IsStep w e v → Honest v
step_honest w (event.Call id k) v h is = subst Honest (sym is.after) (becomes_honest w id (after_call is.client k) h)
step_honest w (event.Up packet now e) v h is = subst Honest (sym is.2) (honest_by w _ h (served_grows w.ups w.serving (input.Up is.0) now e (packet, is.1) h.sound))
step_honest w (event.Down packet) v h is = subst Honest (sym is.after) (record {
  sound = h.sound;
  acks = all_front (Vouched (entries w.serving.history)) w.acks (acknowledged is.client is.message) h.acks (ack_backed (entries w.serving.history) is.client is.message (item_backed (entries w.serving.history) w.serving.downs packet is.message h.sound.downs is.sent));
  sent = (becomes_honest w is.session.client (after_receive is.client is.message) h).sent;
})
step_honest w (event.Loss id now) v h is = subst Honest (sym is.1) (honest_by w _ h (lost_grows w.ups _ w.serving now ending.Answered h.sound))
step_honest w (event.Tick now) v h is = subst Honest (sym is) (honest_by w _ h (served_grows w.ups w.serving input.Tick now ending.Answered tt h.sound))
step_honest w (event.RestartClient id) v h is = subst Honest (sym is.after) (record { sound = h.sound; acks = h.acks; sent = h.sent })
step_honest w (event.RestartServer now) v h is = subst Honest (sym is.2) (honest_by w is.0 h (restarted_grows w.ups w.serving is.0 now h.sound is.1))
step_honest w event.Checkpoint v h is = subst Honest (sym is) (honest_by w _ h (checkpointed_grows w.ups w.serving h.sound))

pub stop_honest : (w : World) (e : Event) (v : World) → Honest w → IsStop w e v → Honest v
stop_honest w (event.Call id k) v h is = absurd is
stop_honest w (event.Up packet now e) v h is = subst Honest (sym is.2) (honest_by w _ h (served_grows w.ups w.serving (input.Up is.0) now ending.Stopped (packet, is.1) h.sound))
stop_honest w (event.Down packet) v h is = absurd is
stop_honest w (event.Loss id now) v h is = subst Honest (sym is.1) (honest_by w _ h (lost_grows w.ups _ w.serving now ending.Stopped h.sound))
stop_honest w (event.Tick now) v h is = subst Honest (sym is) (honest_by w _ h (served_grows w.ups w.serving input.Tick now ending.Stopped tt h.sound))
stop_honest w (event.RestartClient id) v h is = absurd is
stop_honest w (event.RestartServer now) v h is = absurd is
stop_honest w event.Checkpoint v h is = absurd is

pub refused_honest : (w : World) (e : Event) (v : World) (f : WorldFault) → Honest w → IsRefused w e v f → Honest v
refused_honest w e v fault.Memory h (inl is) = subst Honest (sym is) h
refused_honest w e v fault.Memory h (inr is) = stop_honest w e v h is
refused_honest w e v fault.NoSuch h is = subst Honest (sym is.0) h
refused_honest w e v (fault.Client f) h is = subst Honest (sym is.0) h

pub new_honest : (ids : List ClientId) → Honest (new_world ids)
new_honest ids = record { sound = record { legal = tt; its_log = λ t x. its _ t x; downs = tt }; acks = tt; sent = tt }
