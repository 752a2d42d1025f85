-- The index says after one entry more what the log says.
use Rattle.std.proofs.Common.{refl, sym, ◌∙◌, ap, subst, ◌≡◌, ℕ, ◌+◌, ◌-◌, ◌^◌, ◌<◌, ◌≤◌, List, [], ◌∷◌, ◌++◌, length, fold, filter, Bool, true, false, not, cond, ◌||◌, ◌&&◌, true≢false, append-nil, arith, IsTrue, length-append, Option, Some, None, slice_get, unwrap_or}
use Rattle.std.specs.Option.{option_map}
use Rattle.std.specs.BTreeMap.{get}
use Rattle.std.specs.List.{list_any}
use Rattle.std.proofs.lemmas.Bool.{and_parts}
use Rattle.std.proofs.lemmas.List.Kept.{IsStrictlySortedBy-filter}
use Rattle.pres_tree.specs.Paths.{Path, same_path}
use Rattle.pres_write.specs.declared.basic.Basic.{Basic}
use Rattle.pres_plan.specs.Plans.{most_rows, due}
use Rattle.pres_write.specs.Outcomes.{kept_of}
use Rattle.pres_ids.specs.declared.id.Stamp.{Stamp}
use Rattle.pres_ids.specs.declared.id.SessionId.{SessionId}
use Rattle.pres_ids.specs.declared.id.Why.{Why}
use Rattle.pres_ids.specs.Ids.{ClientId, client_cmp, same_client, same_session, stamp_of}
use Rattle.pres_ids.specs.Numbers.{greatest_number}
use Rattle.pres_retry.specs.declared.table.Row.{Row}
use Rattle.pres_retry.specs.Tables.{Table, row, rows_of}
use Rattle.pres_retry.proofs.Records.{rows_of_recorded}
use Rattle.pres_fan.specs.declared.listeners.Listener.{Listener}
use Rattle.pres_fan.specs.Listeners as fan
use Rattle.pres_fan.specs.Listeners.{IsListeners, most_paths, listener_cmp, listener_of, paths_of, add_path, with_listener, without, without_session}
use Rattle.pres_fan.proofs.Orders.{listener_total}
use Rattle.pres_fan.proofs.Places.{with_step, without_step, without_session_step}
use Rattle.pres_log.specs.declared.entry.Entry.{Entry}
use Rattle.pres_log.specs.declared.entry.Entry.TheVariants as entry
use Rattle.pres_log.specs.Logs.{tree, writes_of}
use Rattle.pres_wire.specs.declared.down.Down.{Down}
use Rattle.pres_server.specs.declared.index.Index.{Index}
use Rattle.pres_server.specs.Sessions.{session_of}
use Rattle.pres_server.specs.InternalParts.{Part, LivePart, IsAsked, plan_after, answer_by, comes_after}
use Rattle.pres_server.specs.InternalSessions.{Session, last_stamp, live_part, sent_to, answered, live_after, gone_after, HasRoom, MayLeaveAt}
use Rattle.pres_server.specs.InternalPushes.{pushes}
use Rattle.pres_server.specs.InternalIndex.{session_at, gone_at, part_at, sent_at, paths_at, retry_after, listeners_after, GoneSteps, Carries, Steps, TakesEntry, MayTake, MayCarry}
use Rattle.pres_server.proofs.Clients.{client_same, client_itself, session_same, session_itself}
use Rattle.pres_server.proofs.Sorted.{sorted_put}
use Rattle.pres_server.proofs.Taken.{due_by, leaves_by, may_open, is_again, live_new, gone_changed}
use Rattle.pres_history.specs.Sessions.{opens, ends, is_open, is_newest, count, open_sessions_of}
use Rattle.pres_history.specs.Listening.{listens_after, listened, touched}
use Rattle.pres_history.specs.Streams.{stream, answers_to}
use Rattle.pres_history.specs.SessionPlans.{plan}
use Rattle.pres_history.specs.InternalParts.{Sound, rows_step, part_of, part_step, live_in, sent_of}
use Rattle.pres_history.specs.InternalInvariants.{MayComeUncounted, MayComeInTurn, MayTakeAll, Indexed}
use Rattle.pres_history.proofs.Steps.{is_open-append, is_open-same}
use Rattle.pres_history.proofs.PlanSteps.{plan_own}
use Rattle.pres_history.proofs.ListenSteps.{listened_own, listened_other}
use Rattle.pres_history.proofs.Parts.{part_after, only_open, row_there, not_opened, fresh_count}
use Rattle.pres_history.proofs.AfterEntry.{sound_after}
use Rattle.pres_history.proofs.Sent.{push_count, sent_between, sent_step, sent_after}
use Rattle.pres_history.proofs.Answers.{own_answered}
use Rattle.pres_history.proofs.Carried.{Between, between, pushes_are, may_push}
use Rattle.pres_history.proofs.LegalLogs.{filter_small, pushed_small, count_small, stream_small}

-- ---- what a client's part says of its place

-- an open session has a number left each way
room_by : (live : Option Session) (l : LivePart) (n : ℕ) → option_map live_part live ≡ Some l → sent_to live ≡ Some n → l.count < greatest_number → n < greatest_number → HasRoom live
room_by None l n k h a b = absurd (cc)
room_by (Some session) l n k h a b =
    let c : session.count ≡ l.count = ap (λ (o : Option LivePart). (unwrap_or o l).count) k in
    let e : session.sent ≡ n = ap (λ (o : Option ℕ). unwrap_or o n) h in
    (omega arith, omega arith)

-- what the log says of an open session
abbrev here : List Entry → SessionId → LivePart
here es s = record { stamp = stamp_of s; count = count s es; plan = plan s es }

room_there : (es : List Entry) (e : Entry) (s : SessionId) (index : Index) → Between es e index → Sound es → is_open s es ≡ true → length es + 1 < 2 ^ 52 → HasRoom (session_at index s.client)
room_there es e s index ix sound o small =
    let c = count_small s es in
    let n = stream_small s es in
    let p = pushed_small s (es ++ e ∷ []) (touched s (es ++ e ∷ []) e) in
    let only = only_open s es sound o in
    room_by (session_at index s.client) (here es s) (length (stream s es) + push_count s es e)
    (ap (λ (p : Part). p.live) (ix.parts s.client) ∙ ap (λ xs. live_in xs es) only) (ix.sent s.client ∙ ap (λ l. sent_between l es e) only) (omega arith) (omega arith)

live_there : (es : List Entry) (e : Entry) (s : SessionId) (index : Index) → Between es e index → Sound es → is_open s es ≡ true → option_map live_part (session_at index s.client) ≡ Some (here es s)
live_there es e s index ix sound o = ap (λ (p : Part). p.live) (ix.parts s.client) ∙ ap (λ xs. live_in xs es) (only_open s es sound o)

-- the open session may leave what its next message asks for
leaves_there : (es : List Entry) (e : Entry) (q : ℕ) (index : Index) → Between es e index → Sound es → is_open (session_of e) es ≡ true → q ≡ count (session_of e) es + 1
    → length (plan (session_of e) (es ++ e ∷ [])) ≤ most_rows → MayLeaveAt (session_at index (session_of e).client) q e
leaves_there es e q index ix sound o n few =
    let s = session_of e in
    leaves_by (session_at index s.client) (here es s) (live_there es e s index ix sound o) q e n
    (subst (λ xs. IsAsked (live_in xs es)) (only_open s es sound o) (sound.asked s.client))
    (subst (λ rows. length rows ≤ most_rows) (plan_own s es e (and_parts (list_any (opens s) es) _ o).0 (session_itself s)) few)

-- an open session may listen to what its next message asks for
listens_there : (es : List Entry) (s : SessionId) (q : ℕ) (path : Path) (index : Index) → Between es (entry.On s q path) index → is_open s es ≡ true
    → length (listened s (es ++ entry.On s q path ∷ [])) ≤ most_paths → length (paths_of s (with_listener s path index.listeners)) ≤ most_paths
listens_there es s q path index ix o few =
    subst (λ paths. length paths ≤ most_paths)
    (listened_own s es (entry.On s q path) (and_parts (list_any (opens s) es) _ o).0 (session_itself s)
    ∙ ap (λ b. add_path path (cond b (listened s es) [])) (sym o)
    ∙ ap (add_path path) (sym (ix.listens s))
    ∙ ap (λ b. cond b (add_path path (paths_at index s)) (paths_at index s)) (sym (session_itself s))
    ∙ sym (with_step s path s index.listeners ix.held))
    few

-- an entry that may come after the log may be taken in, once its writes are carried out
pub takes : (es : List Entry) (m : ℕ) (e : Entry) (index : Index) → Between es e index → Sound es → MayComeUncounted es m e → length es + 1 < 2 ^ 52 → MayTake index e
takes es m (entry.Open s) index ix sound f small =
    may_open index s (ap (λ (p : Part). p.live) (ix.parts s.client) ∙ ap (λ xs. live_in xs es) f.1)
    (ap (λ (p : Part). comes_after p.last (stamp_of s)) (ix.parts s.client) ∙ sym (sound.newest s) ∙ f.0)
takes es m (entry.Op s q n op outcome) index ix sound f small =
    (room_there es (entry.Op s q n op outcome) s index ix sound f.0.0 small, f.1 ∙ ap (λ (p : Part). length p.rows + 1) (sym (ix.parts s.client)))
takes es m (entry.Again s q n) index ix sound f small =
    let r = row_there es s.client n f.1 f.2 in
    let k : slice_get (rows_of s.client index.retry) (n - 1) ≡ Some r.0 = ap (λ (p : Part). slice_get p.rows (n - 1)) (ix.parts s.client) ∙ r.1 in
    (room_there es (entry.Again s q n) s index ix sound f.0.0 small, r.0, is_again n (rows_of s.client index.retry) r.0 f.1 (subst (λ (p : Part). n ≤ length p.rows) (sym (ix.parts s.client)) f.2) k, k)
takes es m (entry.Left s q puts) index ix sound f small =
    (room_there es (entry.Left s q puts) s index ix sound f.0.0 small, leaves_there es (entry.Left s q puts) q index ix sound f.0.0 f.0.1 f.1)
takes es m (entry.Cancelled s q path) index ix sound f small =
    (room_there es (entry.Cancelled s q path) s index ix sound f.0.0 small, leaves_there es (entry.Cancelled s q path) q index ix sound f.0.0 f.0.1 f.1)
takes es m (entry.Denied s q why) index ix sound f small = room_there es (entry.Denied s q why) s index ix sound f.0 small
takes es m (entry.On s q path) index ix sound f small =
    (room_there es (entry.On s q path) s index ix sound f.0.0 small, listens_there es s q path index ix f.0.0 f.1)
takes es m (entry.Off s q path) index ix sound f small = room_there es (entry.Off s q path) s index ix sound f.0 small
takes es m (entry.Ended s q why rows) index ix sound f small = (
  room_there es (entry.Ended s q why rows) s index ix sound f.0 small,
  due_by (session_at index s.client) (here es s) (live_there es (entry.Ended s q why rows) s index ix sound f.0) rows (tree es) m f.2,
)

-- ---- the parts after the entry

abbrev pub part_in : Option Session → Option Stamp → List Row → Part
part_in live last rows = record { last = last_stamp live last; rows = rows; live = option_map live_part live }

step_is : (z m : ℕ) (e : Entry) (live : Option Session) (last : Option Stamp) (rows : List Row)
    → part_in (live_after m e live) (gone_after e live last) (rows_step z e rows) ≡ part_step z e (part_in live last rows)
step_is z m (entry.Open s) live last rows = refl
step_is z m (entry.Op s q n op outcome) None last rows = refl
step_is z m (entry.Op s q n op outcome) (Some session) last rows = refl
step_is z m (entry.Again s q n) None last rows = refl
step_is z m (entry.Again s q n) (Some session) last rows = refl
step_is z m (entry.Left s q puts) None last rows = refl
step_is z m (entry.Left s q puts) (Some session) last rows = refl
step_is z m (entry.Cancelled s q path) None last rows = refl
step_is z m (entry.Cancelled s q path) (Some session) last rows = refl
step_is z m (entry.Denied s q why) None last rows = refl
step_is z m (entry.On s q path) None last rows = refl
step_is z m (entry.On s q path) (Some session) last rows = refl
step_is z m (entry.Off s q path) None last rows = refl
step_is z m (entry.Denied s q why) (Some session) last rows = refl
step_is z m (entry.Off s q path) (Some session) last rows = refl
step_is z m (entry.Ended s q why due) None last rows = refl
step_is z m (entry.Ended s q why due) (Some session) last rows = refl

rows_own : (z : ℕ) (e : Entry) (table : Table) → rows_of (session_of e).client (retry_after z e table) ≡ rows_step z e (rows_of (session_of e).client table)
rows_own z (entry.Open s) table = refl
rows_own z (entry.Op s q n op outcome) table =
    rows_of_recorded s.client s.client n (row z (kept_of outcome)) table
    ∙ ap (λ b. rows_of s.client table ++ cond b (row z (kept_of outcome) ∷ []) []) (client_itself s.client)
rows_own z (entry.Again s q n) table = refl
rows_own z (entry.Left s q puts) table = refl
rows_own z (entry.Cancelled s q path) table = refl
rows_own z (entry.Denied s q why) table = refl
rows_own z (entry.On s q path) table = refl
rows_own z (entry.Off s q path) table = refl
rows_own z (entry.Ended s q why due) table = refl

rows_other : (z : ℕ) (e : Entry) (c : ClientId) (table : Table) → same_client (session_of e).client c ≡ false → rows_of c (retry_after z e table) ≡ rows_of c table
rows_other z (entry.Open s) c table h = refl
rows_other z (entry.Op s q n op outcome) c table h =
    rows_of_recorded c s.client n (row z (kept_of outcome)) table
    ∙ ap (λ b. rows_of c table ++ cond b (row z (kept_of outcome) ∷ []) []) h
    ∙ append-nil (rows_of c table)
rows_other z (entry.Again s q n) c table h = refl
rows_other z (entry.Left s q puts) c table h = refl
rows_other z (entry.Cancelled s q path) c table h = refl
rows_other z (entry.Denied s q why) c table h = refl
rows_other z (entry.On s q path) c table h = refl
rows_other z (entry.Off s q path) c table h = refl
rows_other z (entry.Ended s q why due) c table h = refl

gone_stays : (old new : Index) (k : ClientId) → new.places.gone ≡ old.places.gone → (c : ClientId) (b : Bool) → same_client k c ≡ b → gone_at new c ≡ cond b (gone_at old k) (gone_at old c)
gone_stays old new k st c true h = ap (λ m. get client_cmp m c) st ∙ ap (gone_at old) (sym (client_same k c h))
gone_stays old new k st c false h = ap (λ m. get client_cmp m c) st

gone_new : (old new : Index) (e : Entry) → GoneSteps old new e → (c : ClientId) (b : Bool) → same_client (session_of e).client c ≡ b
    → gone_at new c ≡ cond b (gone_after e (session_at old (session_of e).client) (gone_at old (session_of e).client)) (gone_at old c)
gone_new old new (entry.Open s) st c b h = gone_changed old new s.client None st c b h
gone_new old new (entry.Op s q n op outcome) st c b h = gone_stays old new s.client st c b h
gone_new old new (entry.Again s q n) st c b h = gone_stays old new s.client st c b h
gone_new old new (entry.Left s q puts) st c b h = gone_stays old new s.client st c b h
gone_new old new (entry.Cancelled s q path) st c b h = gone_stays old new s.client st c b h
gone_new old new (entry.Denied s q why) st c b h = gone_stays old new s.client st c b h
gone_new old new (entry.On s q path) st c b h = gone_stays old new s.client st c b h
gone_new old new (entry.Off s q path) st c b h = gone_stays old new s.client st c b h
gone_new old new (entry.Ended s q why rows) st c b h = gone_changed old new s.client (last_stamp (session_at old s.client) (gone_at old s.client)) st c b h

part_own : (z m : ℕ) (old new : Index) (e : Entry) → Steps z m old new e → part_at new (session_of e).client ≡ part_step z e (part_at old (session_of e).client)
part_own z m old new e st =
    let c = (session_of e).client in
    (λ i. part_in (live_new z m old new e st c true (client_itself c) i) (gone_new old new e st.gone c true (client_itself c) i) ((ap (rows_of c) st.retry ∙ rows_own z e old.retry) i))
    ∙ step_is z m e (session_at old c) (gone_at old c) (rows_of c old.retry)

part_kept : (z m : ℕ) (old new : Index) (e : Entry) → Steps z m old new e → (c : ClientId) → same_client (session_of e).client c ≡ false → part_at new c ≡ part_at old c
part_kept z m old new e st c h =
    λ i. part_in (live_new z m old new e st c false h i) (gone_new old new e st.gone c false h i) ((ap (rows_of c) st.retry ∙ rows_other z e c old.retry h) i)

-- ---- what was sent, and who listens

sent_answered : (m : ℕ) (e : Entry) (live : Option Session) → sent_to (option_map (λ session. answered m (plan_after e session.plan) session) live) ≡ option_map (λ n. n + 1) (sent_to live)
sent_answered m e None = refl
sent_answered m e (Some session) = refl

sent_own : (m : ℕ) (e : Entry) (live : Option Session) → sent_to (live_after m e live) ≡ sent_step e (sent_to live)
sent_own m (entry.Open s) live = refl
sent_own m (entry.Op s q n op outcome) live = sent_answered m (entry.Op s q n op outcome) live
sent_own m (entry.Again s q n) live = sent_answered m (entry.Again s q n) live
sent_own m (entry.Left s q puts) live = sent_answered m (entry.Left s q puts) live
sent_own m (entry.Cancelled s q path) live = sent_answered m (entry.Cancelled s q path) live
sent_own m (entry.Denied s q why) live = sent_answered m (entry.Denied s q why) live
sent_own m (entry.On s q path) live = sent_answered m (entry.On s q path) live
sent_own m (entry.Off s q path) live = sent_answered m (entry.Off s q path) live
sent_own m (entry.Ended s q why rows) live = refl

-- what a session listens to by the list, after an entry
abbrev paths_step : SessionId → Entry → List Path → List Path
paths_step s (entry.On t q path) paths = cond (same_session s t) (add_path path paths) paths
paths_step s (entry.Off t q path) paths = cond (same_session s t) (filter (λ p. not (same_path path p)) paths) paths
paths_step s (entry.Ended t q why rows) paths = cond (same_session s t) [] paths
paths_step s _ paths = paths

pub paths_stepped : (s : SessionId) (e : Entry) (listeners : List Listener) → IsListeners listeners → paths_of s (listeners_after e listeners) ≡ paths_step s e (paths_of s listeners)
paths_stepped s (entry.Open t) listeners held = refl
paths_stepped s (entry.Op t q n op outcome) listeners held = refl
paths_stepped s (entry.Again t q n) listeners held = refl
paths_stepped s (entry.Left t q puts) listeners held = refl
paths_stepped s (entry.Cancelled t q path) listeners held = refl
paths_stepped s (entry.Denied t q why) listeners held = refl
paths_stepped s (entry.On t q path) listeners held = with_step t path s listeners held
paths_stepped s (entry.Off t q path) listeners held = without_step t path s listeners
paths_stepped s (entry.Ended t q why rows) listeners held = without_session_step t s listeners

-- an entry that neither opens nor ends leaves to each session what the log says
paths_said : (s : SessionId) (es : List Entry) (e : Entry) → ((t : SessionId) → opens t e ≡ false) → ((t : SessionId) → ends t e ≡ false)
    → ((paths : List Path) → paths_step s e paths ≡ cond (same_session s (session_of e)) (listens_after paths e) paths)
    → is_open (session_of e) es ≡ true → paths_step s e (cond (is_open s es) (listened s es) []) ≡ cond (is_open s (es ++ e ∷ [])) (listened s (es ++ e ∷ [])) []
paths_said s es e opens_none ends_none step o =
    step (cond (is_open s es) (listened s es) [])
    ∙ by (same_session s (session_of e)) refl (is_open s es) refl
    ∙ ap (λ b. cond b (listened s (es ++ e ∷ [])) []) (sym (is_open-same s es e (opens_none s) (ends_none s))) where
      was : (t : SessionId) → is_open t es ≡ true → list_any (opens t) es ≡ true
      was t k = (and_parts (list_any (opens t) es) _ k).0

      by : (a : Bool) → same_session s (session_of e) ≡ a → (b : Bool) → is_open s es ≡ b
          → cond a (listens_after (cond b (listened s es) []) e) (cond b (listened s es) []) ≡ cond b (listened s (es ++ e ∷ [])) []
      by true k true p = sym (listened_own s es e (was s p) k)
      by true k false p = absurd (true≢false (sym o ∙ ap (λ t. is_open t es) (sym (session_same s (session_of e) k)) ∙ p))
      by false k true p = sym (listened_other s es e (was s p) k)
      by false k false p = refl

-- no step but those of On and Off
same_step : (s : SessionId) (e : Entry) → ((paths : List Path) → listens_after paths e ≡ paths) → (paths : List Path) → paths ≡ cond (same_session s (session_of e)) (listens_after paths e) paths
same_step s e h paths = by (same_session s (session_of e)) where
  by : (b : Bool) → paths ≡ cond b (listens_after paths e) paths
  by true = sym (h paths)
  by false = refl

paths_opened : (s : SessionId) (es : List Entry) (t : SessionId) → Sound es → IsTrue (is_newest t es) → cond (is_open s es) (listened s es) [] ≡ cond (is_open s (es ++ entry.Open t ∷ [])) (listened s (es ++ entry.Open t ∷ [])) []
paths_opened s es t sound new = by (same_session s t) refl where
  e : Entry
  e = entry.Open t

  closed : is_open t es ≡ false
  closed = ap (λ b. b && not (list_any (ends t) es)) (not_opened t es new)

  nothing : listened t (es ++ e ∷ []) ≡ []
  nothing = ap (λ l. fold listens_after [] (filter (λ x. same_session t (session_of x)) l)) (fresh_count es t (not_opened t es new))

  no_paths : (b : Bool) → cond {A = List Path} b [] [] ≡ []
  no_paths true = refl
  no_paths false = refl

  own : cond (is_open t es) (listened t es) [] ≡ cond (is_open t (es ++ e ∷ [])) (listened t (es ++ e ∷ [])) []
  own = ap (λ b. cond b (listened t es) []) closed ∙ sym (ap (λ l. cond (is_open t (es ++ e ∷ [])) l []) nothing ∙ no_paths (is_open t (es ++ e ∷ [])))

  other : same_session s t ≡ false → (b : Bool) → is_open s es ≡ b → cond b (listened s es) [] ≡ cond b (listened s (es ++ e ∷ [])) []
  other k true o = sym (listened_other s es e (and_parts (list_any (opens s) es) _ o).0 k)
  other k false o = refl

  by : (b : Bool) → same_session s t ≡ b → cond (is_open s es) (listened s es) [] ≡ cond (is_open s (es ++ e ∷ [])) (listened s (es ++ e ∷ [])) []
  by true k = subst (λ x. cond (is_open x es) (listened x es) [] ≡ cond (is_open x (es ++ e ∷ [])) (listened x (es ++ e ∷ [])) []) (sym (session_same s t k)) own
  by false k = other k (is_open s es) refl ∙ ap (λ b. cond b (listened s (es ++ e ∷ [])) []) (sym (is_open-same s es e k refl))

paths_ended : (s : SessionId) (es : List Entry) (t : SessionId) (q : Option ℕ) (why : Why) (rows : List Basic) →
    cond (same_session s t) [] (cond (is_open s es) (listened s es) []) ≡ cond (is_open s (es ++ entry.Ended t q why rows ∷ [])) (listened s (es ++ entry.Ended t q why rows ∷ [])) []
paths_ended s es t q why rows = by (same_session s t) refl where
  e : Entry
  e = entry.Ended t q why rows

  closes : same_session s t ≡ true → is_open s (es ++ e ∷ []) ≡ false
  closes k = is_open-append s es e ∙ ap (λ b. (list_any (opens s) es || false) && not (list_any (ends s) es || b)) k ∙ never (list_any (opens s) es || false) (list_any (ends s) es) where
    never : (a b : Bool) → (a && not (b || true)) ≡ false
    never true true = refl
    never true false = refl
    never false b = refl

  other : same_session s t ≡ false → (b : Bool) → is_open s es ≡ b → cond b (listened s es) [] ≡ cond b (listened s (es ++ e ∷ [])) []
  other k true o = sym (listened_other s es e (and_parts (list_any (opens s) es) _ o).0 k)
  other k false o = refl

  by : (b : Bool) → same_session s t ≡ b → cond b [] (cond (is_open s es) (listened s es) []) ≡ cond (is_open s (es ++ e ∷ [])) (listened s (es ++ e ∷ [])) []
  by true k = sym (ap (λ b. cond b (listened s (es ++ e ∷ [])) []) (closes k))
  by false k = other k (is_open s es) refl ∙ ap (λ b. cond b (listened s (es ++ e ∷ [])) []) (sym (is_open-same s es e refl k))

pub paths_after : (s : SessionId) (es : List Entry) (m : ℕ) (e : Entry) → Sound es → MayComeUncounted es m e
    → paths_step s e (cond (is_open s es) (listened s es) []) ≡ cond (is_open s (es ++ e ∷ [])) (listened s (es ++ e ∷ [])) []
paths_after s es m (entry.Open t) sound f = paths_opened s es t sound f.0
paths_after s es m (entry.Op t q n op outcome) sound f = paths_said s es (entry.Op t q n op outcome) (λ _. refl) (λ _. refl) (same_step s (entry.Op t q n op outcome) (λ _. refl)) f.0.0
paths_after s es m (entry.Again t q n) sound f = paths_said s es (entry.Again t q n) (λ _. refl) (λ _. refl) (same_step s (entry.Again t q n) (λ _. refl)) f.0.0
paths_after s es m (entry.Left t q puts) sound f = paths_said s es (entry.Left t q puts) (λ _. refl) (λ _. refl) (same_step s (entry.Left t q puts) (λ _. refl)) f.0.0
paths_after s es m (entry.Cancelled t q path) sound f = paths_said s es (entry.Cancelled t q path) (λ _. refl) (λ _. refl) (same_step s (entry.Cancelled t q path) (λ _. refl)) f.0.0
paths_after s es m (entry.Denied t q why) sound f = paths_said s es (entry.Denied t q why) (λ _. refl) (λ _. refl) (same_step s (entry.Denied t q why) (λ _. refl)) f.0
paths_after s es m (entry.On t q path) sound f = paths_said s es (entry.On t q path) (λ _. refl) (λ _. refl) (λ _. refl) f.0.0
paths_after s es m (entry.Off t q path) sound f = paths_said s es (entry.Off t q path) (λ _. refl) (λ _. refl) (λ _. refl) f.0
paths_after s es m (entry.Ended t q why rows) sound f = paths_ended s es t q why rows

-- the list keeps its order and its limit
filter_few : {A : Type 0} (p : A → Bool) (xs : List A) (n : ℕ) → length xs ≤ n → length (filter p xs) ≤ n
filter_few p xs n h = let k = filter_small p xs in omega arith

pub held_after : (index : Index) (e : Entry) → IsListeners index.listeners → MayTake index e → IsListeners (listeners_after e index.listeners)
held_after index (entry.Open s) held may = held
held_after index (entry.Op s q n op outcome) held may = held
held_after index (entry.Again s q n) held may = held
held_after index (entry.Left s q puts) held may = held
held_after index (entry.Cancelled s q path) held may = held
held_after index (entry.Denied s q why) held may = held
held_after index (entry.On s q path) held may = record { ordered = sorted_put listener_cmp listener_total (listener_of s path) index.listeners held.ordered; few = few } where
  few : (t : SessionId) → length (paths_of t (with_listener s path index.listeners)) ≤ most_paths
  few t = by (same_session t s) refl where
    by : (b : Bool) → same_session t s ≡ b → length (paths_of t (with_listener s path index.listeners)) ≤ most_paths
    by true k = subst (λ x. length (paths_of x (with_listener s path index.listeners)) ≤ most_paths) (sym (session_same t s k)) may.1
    by false k = subst (λ paths. length paths ≤ most_paths) (sym (with_step s path t index.listeners held ∙ ap (λ b. cond b (add_path path (paths_of t index.listeners)) (paths_of t index.listeners)) k)) (held.few t)
held_after index (entry.Off s q path) held may = record { ordered = IsStrictlySortedBy-filter listener_cmp _ index.listeners held.ordered; few = few } where
  few : (t : SessionId) → length (paths_of t (without s path index.listeners)) ≤ most_paths
  few t = subst (λ paths. length paths ≤ most_paths) (sym (without_step s path t index.listeners)) (by (same_session t s)) where
    by : (b : Bool) → length (cond b (filter (λ p. not (same_path path p)) (paths_of t index.listeners)) (paths_of t index.listeners)) ≤ most_paths
    by true = filter_few _ (paths_of t index.listeners) most_paths (held.few t)
    by false = held.few t
held_after index (entry.Ended s q why rows) held may = record { ordered = IsStrictlySortedBy-filter listener_cmp _ index.listeners held.ordered; few = few } where
  few : (t : SessionId) → length (paths_of t (without_session s index.listeners)) ≤ most_paths
  few t = subst (λ paths. length paths ≤ most_paths) (sym (without_session_step s t index.listeners)) (by (same_session t s)) where
    by : (b : Bool) → length (cond b [] (paths_of t index.listeners)) ≤ most_paths
    by true = omega arith
    by false = held.few t

-- ---- one entry more

-- the index says what the entries say, with one more
pub indexed_after : (es : List Entry) (m : ℕ) (mid new : Index) (e : Entry) → Between es e mid → Sound es → MayComeUncounted es m e → MayTake mid e → Steps (length es + 1) m mid new e → Indexed (es ++ e ∷ []) new
indexed_after es m mid new e ix sound f may st = record { parts = parts; sent = sent; listens = listens; held = held; tree = st.tree ∙ ix.tree } where
  z : ℕ
  z = length es + 1

  k : ClientId
  k = (session_of e).client

  parts : (c : ClientId) → part_at new c ≡ part_of c (es ++ e ∷ [])
  parts c = by (same_client k c) refl ∙ sym (part_after es m e sound f c) where
    by : (b : Bool) → same_client k c ≡ b → part_at new c ≡ cond b (part_step z e (part_of c es)) (part_of c es)
    by true h = subst (λ x. part_at new x ≡ part_step z e (part_at mid x)) (client_same k c h) (part_own z m mid new e st) ∙ ap (part_step z e) (ix.parts c)
    by false h = part_kept z m mid new e st c h ∙ ix.parts c

  sent : (c : ClientId) → sent_at new c ≡ sent_of c (es ++ e ∷ [])
  sent c = by (same_client k c) refl ∙ sym (sent_after es m e sound f c) where
    between_them : Option ℕ
    between_them = sent_between (open_sessions_of c es) es e

    by : (b : Bool) → same_client k c ≡ b → sent_at new c ≡ cond b (sent_step e between_them) between_them
    by true h =
        subst (λ x. sent_at new x ≡ sent_step e (sent_at mid x)) (client_same k c h) (ap sent_to (live_new z m mid new e st k true (client_itself k)) ∙ sent_own m e (session_at mid k))
        ∙ ap (sent_step e) (ix.sent c)
    by false h = ap sent_to (live_new z m mid new e st c false h) ∙ ix.sent c

  listens : (s : SessionId) → paths_at new s ≡ cond (is_open s (es ++ e ∷ [])) (listened s (es ++ e ∷ [])) []
  listens s = ap (paths_of s) st.listeners ∙ paths_stepped s e mid.listeners ix.held ∙ ap (paths_step s e) (ix.listens s) ∙ paths_after s es m e sound f

  held : IsListeners new.listeners
  held = subst IsListeners (sym st.listeners) (held_after mid e ix.held may)

-- ---- several entries

-- what the first of them asks of the index
pub first_carried : (es : List Entry) (z m : ℕ) (xs : List Entry) (e : Entry) (more : List Entry) (index : Index) → xs ≡ e ∷ more → MayTakeAll es z m xs index → MayCarry index e
first_carried es z m xs e more index k f =
    let each = subst (MayComeInTurn es m) k f.in_turn in
    let small = f.room in
    let n = ap length k in
    let room : length es + 1 < 2 ^ 52 = omega arith in
    record {
      writes = may_push es e index f.indexed f.sound room;
      entry = λ mid carried. takes es m e mid (between es e index mid f.indexed f.sound carried) f.sound each.0 room;
    }

pub rest_taken : (es : List Entry) (z m : ℕ) (xs : List Entry) (e : Entry) (more : List Entry) (old mid new : Index) → xs ≡ e ∷ more → MayTakeAll es z m xs old → Carries (writes_of e) old mid → Steps z m mid new e → MayTakeAll (es ++ e ∷ []) (z + 1) m more new
rest_taken es z m xs e more old mid new k f carried st =
    let each = subst (MayComeInTurn es m) k f.in_turn in
    let n = length-append es (e ∷ []) in
    let l = ap length k in
    let small = f.room in
    let next = f.next in
    let ix = between es e old mid f.indexed f.sound carried in
    let may = (first_carried es z m xs e more old k f).entry mid carried in
    record {
      indexed = indexed_after es m mid new e ix f.sound each.0 may (subst (λ y. Steps y m mid new e) f.next st);
      sound = sound_after es m e f.sound each.0;
      next = omega arith;
      in_turn = each.1;
      room = omega arith;
    }

first_answered : (es : List Entry) (z m : ℕ) (xs : List Entry) (e : Entry) (more : List Entry) (old mid : Index) → xs ≡ e ∷ more → MayTakeAll es z m xs old → Carries (writes_of e) old mid
    → answers_to es e ≡ pushes z mid.tree (session_at old) (fan.touched (writes_of e) old.listeners) ++ answer_by z e (part_at mid (session_of e).client).rows (sent_at mid (session_of e).client) mid.tree
first_answered es z m xs e more old mid k f carried =
    let each = subst (MayComeInTurn es m) k f.in_turn in
    let ix = between es e old mid f.indexed f.sound carried in
    let c = (session_of e).client in
    (λ i. sym (pushes_are es e old mid f.indexed f.sound carried) i ++ own_answered es m e f.sound each.0 i)
    ∙ (λ i. pushes (sym f.next i) mid.tree (session_at old) (fan.touched (writes_of e) old.listeners)
    ++ answer_by (sym f.next i) e (sym (ap (λ (p : Part). p.rows) (ix.parts c)) i) (sym (ix.sent c) i) (sym ix.tree i))

-- what taking the first of them in adds to the answers
pub first_added : (es : List Entry) (xs : List Entry) (e : Entry) (more : List Entry) (old new : Index) (z m : ℕ) (before after : List Down) → xs ≡ e ∷ more → MayTakeAll es z m xs old
    → TakesEntry (record { number = z; moment = m }) e old new before after → after ≡ before ++ answers_to es e
first_added es xs e more old new z m before after k f taken =
    taken.answers ∙ ap (λ l. before ++ l) (sym (first_answered es z m xs e more old taken.between k f taken.carried))
