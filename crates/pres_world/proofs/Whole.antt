-- Whatever happens to a new world, it is safe.
use Rattle.std.proofs.Common.{map, refl, sym, ◌∙◌, ap, subst, ◌≡◌, ◌<◌, ℕ, zero, suc, true, ◌||◌, ◌&&◌, ◌==◌, nat_lt, List, [], ◌∷◌, ◌++◌, inl, inr, Some, slice_get, if◌then◌else◌, arith}
use Rattle.std.specs.List.{Contains}
use Rattle.std.proofs.lemmas.Bool.{lt-ltb}
use Rattle.pres_ids.specs.declared.id.SessionId.{SessionId}
use Rattle.pres_ids.specs.Ids.{ClientId, is_earlier, stamp_of}
use Rattle.pres_write.specs.declared.op.Op.{Op}
use Rattle.pres_write.specs.declared.outcome.Kept.{Kept}
use Rattle.pres_wire.specs.declared.up.Up.TheVariants as up
use Rattle.pres_wire.specs.declared.down.Down.{Down}
use Rattle.pres_wire.specs.declared.down.Down.TheVariants.{Armed, Reply}
use Rattle.pres_log.specs.declared.entry.Entry.{Entry}
use Rattle.pres_log.specs.declared.entry.Entry.TheVariants as entry
use Rattle.pres_log.specs.Logs.{Stands, Log, entries, item_at}
use Rattle.pres_server.specs.declared.input.Input.TheVariants as input
use Rattle.pres_history.specs.LegalLog.{IsLegal}
use Rattle.pres_client.specs.Calls.{after_call}
use Rattle.pres_world.specs.declared.event.Ending.TheVariants as ending
use Rattle.pres_world.specs.declared.event.Event.{Event}
use Rattle.pres_world.specs.declared.event.Event.TheVariants as event
use Rattle.pres_world.specs.declared.fault.WorldFault.{WorldFault}
use Rattle.pres_world.specs.declared.fault.WorldFault.TheVariants as fault
use Rattle.pres_world.specs.WorldClients.{acknowledged}
use Rattle.pres_world.specs.Safe.{Occurrence, happens, hands_out, Occurs, Reaches, WasSent, CameFromMessage, IsEarlierWrite, WritesInOrder, StandsAs, StandsArmed, StaysSafe, IsSafe, IsInTranscript}
use Rattle.pres_world.specs.Worlds.{World, IsStep, IsStop, IsRefused, RunsTo, becomes, new_world}
use Rattle.pres_world.proofs.Backed.{IsAsked, IsWrite, IsArmed, all_front, contained}
use Rattle.pres_world.proofs.Transcripts.{Vouched}
use Rattle.pres_world.proofs.Orderly.{place, writes_stand, sessions_stand, ends_stand, cancels_undone}
use Rattle.pres_client.specs.Steps.{calls, receives, IsMessage}
use Rattle.std.specs.Option.{is_none}
use Rattle.pres_client.specs.Steps.{after}
use Rattle.pres_world.proofs.Safety.{served_grows, lost_grows, restarted_grows, checkpointed_grows, Honest, item_backed, item_sent, step_honest, refused_honest, new_honest}
use Rattle.pres_world.proofs.Stays.{Moves, call_stays, receive_stays}
use Rattle.pres_world.proofs.Snaps.{streamed}
use Rattle.pres_wire.specs.declared.down.Down.TheVariants as down
use Rattle.pres_history.specs.Streams.{stream}
use Rattle.pres_world.proofs.Stands.{none_or_some}
use Rattle.pres_world.proofs.Numbered.{Early, Numbered, becomes_numbered, again_numbered, early_acks, quiet_numbered, grown_numbered, shown_true, packets_numbered, packets_repeat, same_start, new_numbered}

pub record Whole (w : World) : Type 0 where
  pub honest : Honest w
  pub numbered : Numbered w

made_of : (w : World) → Honest w → (i : ℕ) (e : Entry) → slice_get (entries w.serving.history) i ≡ Some e → CameFromMessage w.ups e
made_of w h i e get = item_sent w.ups (entries w.serving.history) (suc i) e h.sent get

-- what the log tells is a message
told_message : (log : Log) → IsLegal log → (m : Down) → IsInTranscript (entries log) m → IsMessage m
told_message log legal (down.Push s r z values) h = by r h where
  by : (r : ℕ) → item_at (stream s (entries log)) r ≡ Some (down.Push s r z values) → IsMessage (down.Push s r z values)
  by zero k = absurd (none_or_some _ k)
  by (suc i) k = (streamed log legal s i _ k).2
told_message log legal (down.Welcome s z ops) h = tt
told_message log legal (down.Reply s r z q n done out) h = tt
told_message log legal (down.Gone s r z why) h = tt
told_message log legal (down.Fault session reason) h = tt
told_message log legal (down.Armed s r z q) h = tt
told_message log legal (down.Denied s r z q why) h = tt
told_message log legal (down.Snap s r z q p v) h = tt
told_message log legal (down.OffDone s r z q) h = tt

step_numbered : (w : World) (e : Event) (v : World) → Whole w → IsStep w e v → Numbered v
step_numbered w (event.Call id k) v h is = subst Numbered (sym is.after) (subst (λ d. Numbered (becomes w id d)) made_it (becomes_numbered w id is.client (calls k) h.honest.sound.legal (made_of w h.honest) tt h.numbered is.there moves)) where
  made_it : after is.client (calls k) ≡ after_call is.client k
  made_it = ap (λ o. if is_none o then after_call is.client k else is.client) is.accepted

  moves : Moves is.client (after is.client (calls k))
  moves = subst (Moves is.client) (sym made_it) (call_stays is.client k)
step_numbered w (event.Up packet now e) v h is = let g = served_grows w.ups w.serving (input.Up is.0) now e (packet, is.1) h.honest.sound in subst Numbered (sym is.2) (grown_numbered w _ g.more g.grown h.numbered)
step_numbered w (event.Down packet) v h is =
    let vouched = item_backed (entries w.serving.history) w.serving.downs packet is.message h.honest.sound.downs is.sent in
    let n = becomes_numbered w is.session.client is.client (receives is.message) h.honest.sound.legal (made_of w h.honest) (vouched.1, told_message w.serving.history h.honest.sound.legal is.message vouched.1) h.numbered is.there (inl (receive_stays is.client is.message)) in
    let early = early_acks w.serving.history w.ups is.session.client is.client is.message (h.numbered.clients is.session.client is.client is.there) (λ z e at. item_sent w.ups (entries w.serving.history) z e h.honest.sent at) vouched.0 in
    subst Numbered (sym is.after) (record { one = n.one; clients = n.clients; owned = n.owned; early = all_front (Early (entries w.serving.history)) w.acks (acknowledged is.client is.message) h.numbered.early early })
step_numbered w (event.Loss id now) v h is = let g = lost_grows w.ups _ w.serving now ending.Answered h.honest.sound in subst Numbered (sym is.1) (grown_numbered w _ g.more g.grown h.numbered)
step_numbered w (event.Tick now) v h is = let g = served_grows w.ups w.serving input.Tick now ending.Answered tt h.honest.sound in subst Numbered (sym is) (grown_numbered w _ g.more g.grown h.numbered)
step_numbered w (event.RestartClient id) v h is = subst Numbered (sym is.after) (again_numbered w id is.client h.numbered is.there)
step_numbered w (event.RestartServer now) v h is = let g = restarted_grows w.ups w.serving is.0 now h.honest.sound is.1 in subst Numbered (sym is.2) (grown_numbered w is.0 g.more g.grown h.numbered)
step_numbered w event.Checkpoint v h is = let g = checkpointed_grows w.ups w.serving h.honest.sound in subst Numbered (sym is) (grown_numbered w _ g.more g.grown h.numbered)

stop_numbered : (w : World) (e : Event) (v : World) → Whole w → IsStop w e v → Numbered v
stop_numbered w (event.Call id k) v h is = absurd is
stop_numbered w (event.Up packet now e) v h is = let g = served_grows w.ups w.serving (input.Up is.0) now ending.Stopped (packet, is.1) h.honest.sound in subst Numbered (sym is.2) (grown_numbered w _ g.more g.grown h.numbered)
stop_numbered w (event.Down packet) v h is = absurd is
stop_numbered w (event.Loss id now) v h is = let g = lost_grows w.ups _ w.serving now ending.Stopped h.honest.sound in subst Numbered (sym is.1) (grown_numbered w _ g.more g.grown h.numbered)
stop_numbered w (event.Tick now) v h is = let g = served_grows w.ups w.serving input.Tick now ending.Stopped tt h.honest.sound in subst Numbered (sym is) (grown_numbered w _ g.more g.grown h.numbered)
stop_numbered w (event.RestartClient id) v h is = absurd is
stop_numbered w (event.RestartServer now) v h is = absurd is
stop_numbered w event.Checkpoint v h is = absurd is

refused_numbered : (w : World) (e : Event) (v : World) (f : WorldFault) → Whole w → IsRefused w e v f → Numbered v
refused_numbered w e v fault.Memory h (inl is) = subst Numbered (sym is) h.numbered
refused_numbered w e v fault.Memory h (inr is) = stop_numbered w e v h is
refused_numbered w e v fault.NoSuch h is = subst Numbered (sym is.0) h.numbered
refused_numbered w e v (fault.Client f) h is = subst Numbered (sym is.0) h.numbered

occurs_whole : (w : World) (o : Occurrence) (v : World) → Whole w → Occurs w o v → Whole v
occurs_whole w (happens e) v h (inl is) = record { honest = step_honest w e v h.honest is; numbered = step_numbered w e v h is }
occurs_whole w (happens e) v h (inr is) = record { honest = refused_honest w e v is.0 h.honest is.1; numbered = refused_numbered w e v is.0 h is.1 }
occurs_whole w (hands_out id) v h (inl is) = subst Whole (sym is) h
occurs_whole w (hands_out id) v h (inr is) = subst Whole (sym is.2) (record { honest = record { sound = h.honest.sound; acks = h.honest.acks; sent = h.honest.sent }; numbered = quiet_numbered w id is.0 h.numbered is.1 })

passes_whole : (w : World) (occurrences : List Occurrence) (v : World) → Whole w → Reaches w occurrences v → Whole v
passes_whole w [] v h is = subst Whole (sym is) h
passes_whole w (o ∷ later) v h is = passes_whole is.0 later v (occurs_whole w o is.0 h is.1) is.2

-- the message that asked for the write
asked_by : (w : World) (s : SessionId) (q n : ℕ) → Honest w → IsAsked (entries w.serving.history) s q n → (o : Op) × WasSent w.ups (up.Op s q n o)
asked_by w s q n honest (z, inl h) = (h.0, item_sent w.ups (entries w.serving.history) z (entry.Op s q n h.0 h.1) honest.sent h.2)
asked_by w s q n honest (z, inr h) = item_sent w.ups (entries w.serving.history) z (entry.Again s q n) honest.sent h

stands_as : (w : World) (s : SessionId) (r z q n done : ℕ) (out : Kept) → Whole w → IsWrite (entries w.serving.history) s n done out → IsAsked (entries w.serving.history) s q n → Early (entries w.serving.history) (Reply s r z q n done out) → StandsAs w s q n done out
stands_as w s r z q n done out whole h asks early = record {
  session = h.session;
  first_q = h.q;
  op = h.op;
  outcome = h.outcome;
  stands = h.stands;
  sent = sent;
  client = h.client;
  start = start;
  asked = subst (λ o. WasSent w.ups (up.Op s q n o)) (packets_repeat w whole.numbered s h.session q h.q n asked.0 h.op asked.1 sent (sym h.client) (sym start)) asked.1;
  kept = h.kept;
} where
  sent : WasSent w.ups (up.Op h.session h.q n h.op)
  sent = item_sent w.ups (entries w.serving.history) done (entry.Op h.session h.q n h.op h.outcome) whole.honest.sent h.stands

  asked : (o : Op) × WasSent w.ups (up.Op s q n o)
  asked = asked_by w s q n whole.honest asks

  at : (i : ℕ) × (done ≡ suc i) × (slice_get (entries w.serving.history) i ≡ Some (entry.Op h.session h.q n h.op h.outcome))
  at = place (entries w.serving.history) done _ h.stands

  start : h.session.incarnation ≡ s.incarnation
  start = same_start w whole.numbered whole.honest.sound.legal s h.session q h.q n asked.0 h.op h.outcome at.0 asked.1 at.2 h.client (early.1 h.session h.q n h.op h.outcome h.stands)

acknowledged_stands : (w : World) → Whole w → (s : SessionId) (r z q n done : ℕ) (out : Kept) → Contains w.acks (Reply s r z q n done out) → StandsAs w s q n done out
acknowledged_stands w whole s r z q n done out there =
    let backed = (contained (Vouched (entries w.serving.history)) w.acks (Reply s r z q n done out) whole.honest.acks there).0 in
    stands_as w s r z q n done out whole backed.0 backed.1 (contained (Early (entries w.serving.history)) w.acks (Reply s r z q n done out) whole.numbered.early there)

earlier_start : (s t : SessionId) → s.incarnation < t.incarnation → is_earlier (stamp_of s) (stamp_of t) ≡ true
earlier_start s t less = ap (λ b. b || (s.incarnation == t.incarnation && nat_lt s.attempt t.attempt)) (lt-ltb s.incarnation t.incarnation less)

-- the one that got its number earlier stands earlier
writes_in_order : (w : World) → Whole w → WritesInOrder w
writes_in_order w whole s t r r' z z' q p n m j k out out' a b same earlier = by earlier where
  first : StandsAs w s q n j out
  first = acknowledged_stands w whole s r z q n j out a

  second : StandsAs w t p m k out'
  second = acknowledged_stands w whole t r' z' p m k out' b

  client : first.session.client ≡ second.session.client
  client = first.client ∙ same ∙ sym second.client

  by : IsEarlierWrite s n t m → j < k
  by (inl less) =
      let x = first.start in
      let y = second.start in
      sessions_stand w.serving.history whole.honest.sound.legal j k _ _ first.stands second.stands client (earlier_start first.session second.session (omega (arith, less, x, y)))
  by (inr later) = (writes_stand w.serving.history whole.honest.sound.legal).in_order first.session second.session j k first.first_q second.first_q n m first.op second.op first.outcome second.outcome first.stands second.stands client later.1

stands_armed : (w : World) (s : SessionId) (z q : ℕ) → Honest w → IsArmed (entries w.serving.history) s z q → StandsArmed w s z q
stands_armed w s z q honest (inl h) =
    let sent = item_sent w.ups (entries w.serving.history) z (entry.Left s q h.0) honest.sent h.1 in
    inl (sent.0, sent.1, subst (λ x. Stands w.serving.history z (entry.Left s q x)) sent.2 h.1)
stands_armed w s z q honest (inr h) = inr (h.0, item_sent w.ups (entries w.serving.history) z (entry.Cancelled s q h.0) honest.sent h.1, h.1)

pub stays_safe : (ids : List ClientId) (occurrences : List Occurrence) (v : World) → StaysSafe ids occurrences v
stays_safe ids occurrences v passes =
    let whole = passes_whole (new_world ids) occurrences v (record { honest = new_honest ids; numbered = new_numbered ids }) passes in
    let h = whole.honest in
    record {
      acknowledged = acknowledged_stands v whole;
      in_order = writes_in_order v whole;
      armed = λ s r z q c. stands_armed v s z q h (contained (Vouched (entries v.serving.history)) v.acks (Armed s r z q) h.acks c).0;
      told = λ m c. (contained (Vouched (entries v.serving.history)) v.acks m h.acks c).1;
      sent = λ k e at. item_sent v.ups (entries v.serving.history) k e h.sent at;
      numbered = packets_numbered v whole.numbered;
      repeats = packets_repeat v whole.numbered;
      views = λ id c there p z x shows. shown_true v id c whole.numbered there p z x shows;
      agree = λ i j c d c_there d_there p z x y c_shows d_shows. (shown_true v i c whole.numbered c_there p z x c_shows).1 ∙ sym (shown_true v j d whole.numbered d_there p z y d_shows).1;
      writes = writes_stand v.serving.history h.sound.legal;
      sessions = sessions_stand v.serving.history h.sound.legal;
      ends = ends_stand v.serving.history h.sound.legal;
      cancels = cancels_undone v.serving.history h.sound.legal;
    }

-- ---- runs

passes_then : (u w v : World) (xs ys : List Occurrence) → Reaches u xs w → Reaches w ys v → Reaches u (xs ++ ys) v
passes_then u w v [] ys h k = subst (λ x. Reaches x ys v) h k
passes_then u w v (o ∷ xs) ys h k = (h.0, h.1, passes_then h.0 w v xs ys h.2 k)

reaches_passes : (w v : World) (events : List Event) → RunsTo w events v → Reaches w (map happens events) v
reaches_passes w v [] h = h
reaches_passes w v (e ∷ later) h = (h.0, inl h.1, reaches_passes h.0 v later h.2)

-- events that happen one after the other leave a world safe
pub safe_behind : (ids : List ClientId) (before : List Occurrence) (done : List Event) (w v : World) → Reaches (new_world ids) before w → RunsTo w done v → IsSafe v
safe_behind ids before done w v h k = stays_safe ids (before ++ map happens done) v (passes_then (new_world ids) w v before (map happens done) h (reaches_passes w v done k))

-- and so does one more that is refused
pub safe_refused : (ids : List ClientId) (before : List Occurrence) (done : List Event) (w u v : World) (e : Event) (f : WorldFault) → Reaches (new_world ids) before w → RunsTo w done u → IsRefused u e v f → IsSafe v
safe_refused ids before done w u v e f h k r =
    stays_safe ids (before ++ (map happens done ++ happens e ∷ [])) v
    (passes_then (new_world ids) w v before (map happens done ++ happens e ∷ []) h (passes_then w u v (map happens done) (happens e ∷ []) (reaches_passes w u done k) (v, inr (f, r), refl)))
