-- What a client shows stays true, step by step.
use Rattle.std.proofs.Common.{if◌then◌else◌, refl, sym, ◌∙◌, ap, subst, ◌≡◌, ◌+◌, ◌<◌, ◌≤◌, ℕ, suc, Bool, true, false, cond, List, [], ◌∷◌, ◌++◌, length, take, drop, slice_get, Option, Some, None, true≢false, arith, length-append, ◌&&◌}
use Rattle.std.specs.Option.{is_some}
use Rattle.std.proofs.lemmas.Bool.{and_parts, eqb-true}
use Rattle.pres_ids.specs.declared.id.SessionId.{SessionId}
use Rattle.pres_ids.specs.Ids.{same_session}
use Rattle.pres_tree.specs.declared.scalar.Scalar.{Scalar}
use Rattle.pres_tree.specs.Paths.{Path, same_path}
use Rattle.pres_tree.specs.Rows.{Rows}
use Rattle.pres_tree.proofs.PathOrder.{path_same, path_flip}
use Rattle.pres_wire.specs.declared.down.Down.{Down}
use Rattle.pres_wire.specs.declared.down.Down.TheVariants as down
use Rattle.pres_wire.specs.declared.up.Up.{Up}
use Rattle.pres_log.specs.declared.entry.Entry.{Entry}
use Rattle.pres_log.specs.Logs.{Log, entries, item_at}
use Rattle.pres_client_state.specs.declared.queued.Queued.{Queued}
use Rattle.pres_client_state.specs.Watches.{watch_of}
use Rattle.pres_client.specs.Clients.{ClientState, is_online, outstanding}
use Rattle.pres_client.specs.ReceivedMessages as receiving
use Rattle.pres_wire.specs.Views.{seen_in}
use Rattle.pres_client.specs.ReceivedMessages.{is_next, fits, is_last, first_listen, bring, listen_answered, after_receive}
use Rattle.pres_client.specs.Sends.{SendList}
use Rattle.pres_client.specs.Steps.{ClientStep, after, run}
use Rattle.pres_log.specs.Logs.{tree}
use Rattle.pres_tree.specs.Rows.{value_at}
use Rattle.pres_history.proofs.StreamSteps.{stream_grows}
use Rattle.pres_world.proofs.Backed.{get_front}
use Rattle.pres_client.specs.Views.{Trail, trail, trail_step, nothing, more, takes, listens_to, is_asked, with_snap, with_taken, kept_for}
use Rattle.pres_history.specs.LegalLog.{IsLegal}
use Rattle.pres_history.specs.Streams.{stream}
use Rattle.pres_server.proofs.Clients.{session_same}
use Rattle.pres_world.specs.Safe.{IsInTranscript}
use Rattle.pres_world.proofs.Stands.{none_or_some, take_within}
use Rattle.pres_world.proofs.Hears.{Hears}
use Rattle.pres_world.proofs.Asked.{Asked, Last, Steps, last_step, accepted_last}
use Rattle.pres_world.proofs.Faith.{SeenTrue, Listed, seen_true, later_snap, seen_alike, shown_more, first_shown}

-- what counts begins with the Snap that answers the last listen to the path
pub record Live (es : List Entry) (c : ClientState) (ms : List Up) (p : Path) (shown : List Down) : Type 0 where
  pub session : SessionId
  pub place : ℕ
  pub q : ℕ
  pub r : ℕ
  pub z : ℕ
  pub value : Rows Scalar
  pub snap : slice_get (stream c.session es) place ≡ Some (down.Snap session r z q p value)
  pub early : place < c.taken
  pub shows : shown ≡ drop place (take c.taken (stream c.session es))
  pub last : Last ms p q

-- what the trail of the path tells is true
pub record Faith (es : List Entry) (c : ClientState) (ms : List Up) (p : Path) (t : Trail) : Type 0 where
  pub seen : SeenTrue es p t.messages
  pub counted : t.counts ≡ true → (is_online c.phase ≡ true) × (is_some (watch_of p c.watches) ≡ true)
  pub live : t.counts ≡ true → Live es c ms p t.messages
  pub asked : is_online c.phase ≡ true → is_some (watch_of p c.watches) ≡ true → Asked ms p

-- before what is of no more use is dropped
pub record Raw (es : List Entry) (d : ClientState) (ms : List Up) (p : Path) (t : Trail) : Type 0 where
  pub seen : is_some (watch_of p d.watches) ≡ true → SeenTrue es p t.messages
  pub live : t.counts ≡ true → is_online d.phase ≡ true → is_some (watch_of p d.watches) ≡ true → Live es d ms p t.messages

pub seen_nothing : (es : List Entry) (p : Path) → SeenTrue es p []
seen_nothing es p z v h = absurd (none_or_some (z, v) h)

pub faith_kept : (es : List Entry) (d : ClientState) (ms : List Up) (p : Path) (t : Trail) → Raw es d ms p t → (is_online d.phase ≡ true → is_some (watch_of p d.watches) ≡ true → Asked ms p) → Faith es d ms p (kept_for p d t)
faith_kept es d ms p t raw asked = by (is_some (watch_of p d.watches)) refl (is_online d.phase) refl where
  by : (a : Bool) → is_some (watch_of p d.watches) ≡ a → (b : Bool) → is_online d.phase ≡ b → Faith es d ms p (if a then (if b then t else record t { counts = false }) else nothing)
  by true e true f = record { seen = raw.seen e; counted = λ g. (f, e); live = λ g. raw.live g f e; asked = asked }
  by true e false f = record { seen = raw.seen e; counted = λ g. absurd (true≢false (sym g)); live = λ g. absurd (true≢false (sym g)); asked = asked }
  by false e b f = record { seen = seen_nothing es p; counted = λ g. absurd (true≢false (sym g)); live = λ g. absurd (true≢false (sym g)); asked = asked }

-- nothing was taken
pub quiet_raw : (es : List Entry) (c d : ClientState) (t u : SendList) (p : Path) (trail : Trail) → Faith es c t.messages p trail → (is_online c.phase ≡ true → is_online d.phase ≡ true → Steps p c d t u c.taken) → (is_online d.phase ≡ true → d.session ≡ c.session) → Raw es d u.messages p trail
quiet_raw es c d t u p trail h steps session = record { seen = λ e. h.seen; live = live } where
  live : trail.counts ≡ true → is_online d.phase ≡ true → is_some (watch_of p d.watches) ≡ true → Live es d u.messages p trail.messages
  live g on there =
      let was = h.counted g in
      let l = h.live g in
      let s = steps was.0 on in
      let count = s.taken in
      let same = session on in
      let early = l.early in
      record {
        session = l.session;
        place = l.place;
        q = l.q;
        r = l.r;
        z = l.z;
        value = l.value;
        snap = ap (λ x. slice_get (stream x es) l.place) same ∙ l.snap;
        early = omega (arith, early, count);
        shows = l.shows ∙ λ i. drop l.place (take (sym count i) (stream (sym same i) es));
        last = last_step p c d t u c.taken s was.1 there l.q l.last;
      }

-- ---- the next message of the stream

next_item : (es : List Entry) (c : ClientState) (s : SessionId) (r : ℕ) (m : Down) → is_next c s r ≡ true → item_at (stream s es) r ≡ Some m → slice_get (stream c.session es) c.taken ≡ Some m
next_item es c s r m next item =
    let a = and_parts (is_online c.phase) _ next in
    let b = and_parts (same_session s c.session) _ a.1 in
    let number = eqb-true r (c.taken + 1) b.1 in
    let count : r ≡ suc c.taken = omega (arith, number) in
    ap (λ x. slice_get (stream x es) c.taken) (sym (session_same s c.session b.0)) ∙ sym (ap (item_at (stream s es)) count) ∙ item

pub next_of : (es : List Entry) (c : ClientState) (m : Down) → takes c m ≡ true → IsInTranscript es m → slice_get (stream c.session es) c.taken ≡ Some m
next_of es c (down.Welcome s z ops) h told = absurd (true≢false (sym h))
next_of es c (down.Reply s r z q n done out) h told = next_item es c s r _ h told
next_of es c (down.Gone s r z why) h told = next_item es c s r _ h told
next_of es c (down.Fault session reason) h told = absurd (true≢false (sym h))
next_of es c (down.Armed s r z q) h told = next_item es c s r _ h told
next_of es c (down.Denied s r z q why) h told = next_item es c s r _ h told
next_of es c (down.Snap s r z q p v) h told = next_item es c s r _ h told
next_of es c (down.Push s r z values) h told = next_item es c s r _ h told
next_of es c (down.OffDone s r z q) h told = next_item es c s r _ h told

online_by : (c : ClientState) (s : SessionId) (r : ℕ) → is_next c s r ≡ true → is_online c.phase ≡ true
online_by c s r h = (and_parts (is_online c.phase) _ h).0

pub takes_online : (c : ClientState) (m : Down) → takes c m ≡ true → is_online c.phase ≡ true
takes_online c (down.Welcome s z ops) h = absurd (true≢false (sym h))
takes_online c (down.Reply s r z q n done out) h = online_by c s r h
takes_online c (down.Gone s r z why) h = online_by c s r h
takes_online c (down.Fault session reason) h = absurd (true≢false (sym h))
takes_online c (down.Armed s r z q) h = online_by c s r h
takes_online c (down.Denied s r z q why) h = online_by c s r h
takes_online c (down.Snap s r z q p v) h = online_by c s r h
takes_online c (down.Push s r z values) h = online_by c s r h
takes_online c (down.OffDone s r z q) h = online_by c s r h

-- a Snap that wasn't asked for ends the session
unasked_off : (c : ClientState) (z q : ℕ) (x : Path) (v : Rows Scalar) (rest : List Queued) (o : Option (ℕ × Path)) → (fits c q && listens_to x o) ≡ false → is_online (listen_answered (bring c z) rest z q x v o).phase ≡ false
unasked_off c z q x v rest None h = refl
unasked_off c z q x v rest (Some f) h = ap (λ b. is_online (if b then (let d = receiving.answered (bring c z) rest in if is_last x rest then receiving.after_value d x z v (watch_of x c.watches) else d) else receiving.unfit (bring c z)).phase) h

snap_off : (c : ClientState) (s : SessionId) (r z q : ℕ) (x : Path) (v : Rows Scalar) → is_next c s r ≡ true → is_asked c q x ≡ false → is_online (after_receive c (down.Snap s r z q x v)).phase ≡ false
snap_off c s r z q x v next h = ap (λ b. is_online (if b then listen_answered (bring c z) (drop 1 c.queue) z q x v (first_listen c.queue) else c).phase) next ∙ unasked_off c z q x v (drop 1 c.queue) (first_listen c.queue) h

pub heard_raw : (log : Log) → IsLegal log → (c : ClientState) (m : Down) (ms : List Up) (p : Path) (t : Trail) → Faith (entries log) c ms p t → Listed (entries log) c.session ms → drop c.heard ms ≡ outstanding c → takes c m ≡ true → IsInTranscript (entries log) m
    → Hears c (c.taken + 1) (after_receive c m) → (after_receive c m).session ≡ c.session → Raw (entries log) (after_receive c m) ms p (with_taken p c t m)
heard_raw log legal c m ms p t h listed waits takes_it told hears session = by_message m refl where
  es : List Entry
  es = entries log

  d : ClientState
  d = after_receive c m

  on : is_online c.phase ≡ true
  on = takes_online c m takes_it

  next : slice_get (stream c.session es) c.taken ≡ Some m
  next = next_of es c m takes_it told

  count : is_online d.phase ≡ true → d.taken ≡ suc c.taken
  count e = let n = hears.taken e in omega (arith, n)

  seen_more : t.counts ≡ true → SeenTrue es p (t.messages ++ m ∷ [])
  seen_more g =
      let l = h.live g in
      let early = l.early in
      let whole = shown_more (stream c.session es) l.place c.taken m next (omega (arith, early)) in
      subst (SeenTrue es p) (whole ∙ ap (λ ds. ds ++ m ∷ []) (sym l.shows)) (seen_true log legal c.session ms listed l.session l.place (suc c.taken) l.q l.r l.z p l.value l.snap (omega (arith, early)) l.last)

  live_more : t.counts ≡ true → is_online d.phase ≡ true → Live es d ms p (t.messages ++ m ∷ [])
  live_more g e =
      let l = h.live g in
      let early = l.early in
      let n = count e in
      record {
        session = l.session;
        place = l.place;
        q = l.q;
        r = l.r;
        z = l.z;
        value = l.value;
        snap = ap (λ x. slice_get (stream x es) l.place) session ∙ l.snap;
        early = omega (arith, early, n);
        shows = ap (λ ds. ds ++ m ∷ []) l.shows ∙ sym (shown_more (stream c.session es) l.place c.taken m next (omega (arith, early))) ∙ λ i. drop l.place (take (sym n i) (stream (sym session i) es));
        last = l.last;
      }

  more_raw : (x : Down) → (t.counts ≡ true → SeenTrue es p (t.messages ++ x ∷ [])) → (t.counts ≡ true → is_online d.phase ≡ true → Live es d ms p (t.messages ++ x ∷ [])) → Raw es d ms p (more t x)
  more_raw x seen live = by t.counts refl where
    by : (b : Bool) → t.counts ≡ b → Raw es d ms p (if b then record t { messages = t.messages ++ x ∷ [] } else t)
    by true e = record { seen = λ w. seen e; live = λ g o w. live e o }
    by false e = record { seen = λ w. h.seen; live = λ g o w. absurd (true≢false (sym g ∙ e)) }

  plain : Raw es d ms p (more t m)
  plain = more_raw m seen_more live_more

  by_snap : (s : SessionId) (r z q : ℕ) (x : Path) (v : Rows Scalar) → m ≡ down.Snap s r z q x v → Raw es d ms p (with_snap p c t s r z q x v)
  by_snap s r z q x v is = by (is_asked c q x) refl where
    snap : Down
    snap = down.Snap s r z q x v

    first : fits c q ≡ true → same_path x p ≡ true → is_last x (drop 1 c.queue) ≡ true → Raw es d ms p (record { messages = snap ∷ []; counts = true })
    first fit path last = record { seen = λ w. seen w; live = λ g e w. live e w } where
      here : x ≡ p
      here = path_same x p path

      there : slice_get (stream c.session es) c.taken ≡ Some (down.Snap s r z q p v)
      there = next ∙ ap Some is ∙ ap (λ y. Some (down.Snap s r z q y v)) here

      last_of : is_some (watch_of p d.watches) ≡ true → Last ms p q
      last_of w =
          let number = eqb-true q (c.heard + 1) fit in
          subst (Last ms p) (sym number) (accepted_last p c ms waits (subst (λ y. is_last y (drop 1 c.queue) ≡ true) here last) (h.asked on (hears.fewer p w)))

      shape : drop c.taken (take (suc c.taken) (stream c.session es)) ≡ snap ∷ []
      shape = first_shown (stream c.session es) c.taken m next ∙ ap (λ y. y ∷ []) is

      seen : is_some (watch_of p d.watches) ≡ true → SeenTrue es p (snap ∷ [])
      seen w = subst (SeenTrue es p) shape (seen_true log legal c.session ms listed s c.taken (suc c.taken) q r z p v there (omega arith) (last_of w))

      live : is_online d.phase ≡ true → is_some (watch_of p d.watches) ≡ true → Live es d ms p (snap ∷ [])
      live e w =
          let n = count e in
          record {
            session = s;
            place = c.taken;
            q = q;
            r = r;
            z = z;
            value = v;
            snap = ap (λ y. slice_get (stream y es) c.taken) session ∙ there;
            early = omega (arith, n);
            shows = sym shape ∙ λ i. drop c.taken (take (sym n i) (stream (sym session i) es));
            last = last_of w;
          }

    over : is_asked c q x ≡ false → Raw es d ms p (more t (down.OffDone s r z q))
    over h_asked = more_raw (down.OffDone s r z q) seen live where
      off : is_online d.phase ≡ false
      off = ap (λ y. is_online (after_receive c y).phase) is ∙ snap_off c s r z q x v (ap (takes c) (sym is) ∙ takes_it) h_asked

      seen : t.counts ≡ true → SeenTrue es p (t.messages ++ down.OffDone s r z q ∷ [])
      seen g = by_path (same_path x p) refl where
        by_path : (b : Bool) → same_path x p ≡ b → SeenTrue es p (t.messages ++ down.OffDone s r z q ∷ [])
        by_path true k =
            let l = h.live g in
            absurd (later_snap log legal c.session ms listed l.session s l.place c.taken l.q l.r l.z q r z p l.value v l.snap (next ∙ ap Some is ∙ ap (λ y. Some (down.Snap s r z q y v)) (path_same x p k)) l.early l.last)
        by_path false k = λ y w e.
            seen_more g y w (ap (λ u. SeenIn u) is ∙ seen_alike p t.messages snap (down.OffDone s r z q) (ap (λ b. cond b (Some v) None) (path_flip x p k)) refl ∙ e) where
              SeenIn : Down → Option (ℕ × Rows Scalar)
              SeenIn u = seen_in p (t.messages ++ u ∷ [])

      live : t.counts ≡ true → is_online d.phase ≡ true → Live es d ms p (t.messages ++ down.OffDone s r z q ∷ [])
      live g e = absurd (true≢false (sym e ∙ off))

    by : (b : Bool) → is_asked c q x ≡ b → Raw es d ms p (if b then (if same_path x p && is_last x (drop 1 c.queue) then record { messages = snap ∷ []; counts = true } else more t snap) else more t (down.OffDone s r z q))
    by true e = by_last (same_path x p && is_last x (drop 1 c.queue)) refl where
      by_last : (b : Bool) → (same_path x p && is_last x (drop 1 c.queue)) ≡ b → Raw es d ms p (if b then record { messages = snap ∷ []; counts = true } else more t snap)
      by_last true f = let both = and_parts (same_path x p) _ f in first (and_parts (fits c q) _ e).0 both.0 both.1
      by_last false f = subst (λ y. Raw es d ms p (more t y)) is plain
    by false e = over e

  by_message : (y : Down) → m ≡ y → Raw es d ms p (with_taken p c t y)
  by_message (down.Welcome s z ops) is = subst (λ y. Raw es d ms p (more t y)) is plain
  by_message (down.Reply s r z q n done out) is = subst (λ y. Raw es d ms p (more t y)) is plain
  by_message (down.Gone s r z why) is = subst (λ y. Raw es d ms p (more t y)) is plain
  by_message (down.Fault reason code) is = subst (λ y. Raw es d ms p (more t y)) is plain
  by_message (down.Armed s r z q) is = subst (λ y. Raw es d ms p (more t y)) is plain
  by_message (down.Denied s r z q why) is = subst (λ y. Raw es d ms p (more t y)) is plain
  by_message (down.Snap s r z q x v) is = by_snap s r z q x v is
  by_message (down.Push s r z values) is = subst (λ y. Raw es d ms p (more t y)) is plain
  by_message (down.OffDone s r z q) is = subst (λ y. Raw es d ms p (more t y)) is plain

-- ---- a longer log

pub faith_front : (es more : List Entry) (c : ClientState) (ms : List Up) (p : Path) (t : Trail) → (is_online c.phase ≡ true → c.taken ≤ length (stream c.session es)) → Faith es c ms p t → Faith (es ++ more) c ms p t
faith_front es more c ms p t few h = record { seen = seen; counted = h.counted; live = live; asked = h.asked } where
  seen : SeenTrue (es ++ more) p t.messages
  seen z v e =
      let was = h.seen z v e in
      let small = was.0 in
      let all = length-append es more in
      (omega (arith, small, all), was.1 ∙ ap (λ l. value_at p (tree l)) (sym (take_within es more z small)))

  live : t.counts ≡ true → Live (es ++ more) c ms p t.messages
  live g =
      let l = h.live g in
      let grown = stream_grows c.session es more in
      record {
        session = l.session;
        place = l.place;
        q = l.q;
        r = l.r;
        z = l.z;
        value = l.value;
        snap = ap (λ x. slice_get x l.place) (sym grown.1) ∙ get_front (stream c.session es) grown.0 l.place (down.Snap l.session l.r l.z l.q p l.value) l.snap;
        early = l.early;
        shows = l.shows ∙ ap (drop l.place) (sym (take_within (stream c.session es) grown.0 c.taken (few (h.counted g).0)) ∙ ap (take c.taken) grown.1);
        last = l.last;
      }

pub faith_handed : (es : List Entry) (d : ClientState) (ms : List Up) (p : Path) (t : Trail) (sends : List Up) → Faith es d ms p t → Faith es (record d { sends = sends }) ms p t
faith_handed es d ms p t sends h = record { seen = h.seen; counted = h.counted; live = live; asked = h.asked } where
  live : t.counts ≡ true → Live es (record d { sends = sends }) ms p t.messages
  live g = let l = h.live g in record { session = l.session; place = l.place; q = l.q; r = l.r; z = l.z; value = l.value; snap = l.snap; early = l.early; shows = l.shows; last = l.last }

pub raw_into : (es : List Entry) (d : ClientState) (ms ns : List Up) (p : Path) (t : Trail) → (t.counts ≡ true → is_online d.phase ≡ true → ms ≡ ns) → Raw es d ms p t → Raw es d ns p t
raw_into es d ms ns p t same h = record { seen = h.seen; live = λ g on w. subst (λ l. Live es d l p t.messages) (same g on) (h.live g on w) }

kept_twice : (a b : Bool) (t : Trail) → (if a then (if b then (if a then (if b then t else record t { counts = false }) else nothing) else record (if a then (if b then t else record t { counts = false }) else nothing) { counts = false }) else nothing) ≡ (if a then (if b then t else record t { counts = false }) else nothing)
kept_twice true true t = refl
kept_twice true false t = refl
kept_twice false b t = refl

pub kept_again : (p : Path) (d : ClientState) (t : Trail) → kept_for p d (kept_for p d t) ≡ kept_for p d t
kept_again p d t = kept_twice (is_some (watch_of p d.watches)) (is_online d.phase) t

pub trail_then : (p : Path) (c : ClientState) (t : Trail) (xs ys : List ClientStep) → trail p c t (xs ++ ys) ≡ trail p (run c xs) (trail p c t xs) ys
trail_then p c t [] ys = refl
trail_then p c t (s ∷ xs) ys = trail_then p (after c s) (kept_for p (after c s) (trail_step p c t s)) xs ys

pub faith_noted : (es : List Entry) (d : ClientState) (ms : List Up) (p : Path) (t : Trail) → Faith es d ms p t → Faith es (record d { notices = [] }) ms p t
faith_noted es d ms p t h = record { seen = h.seen; counted = h.counted; live = live; asked = h.asked } where
  live : t.counts ≡ true → Live es (record d { notices = [] }) ms p t.messages
  live g = let l = h.live g in record { session = l.session; place = l.place; q = l.q; r = l.r; z = l.z; value = l.value; snap = l.snap; early = l.early; shows = l.shows; last = l.last }
