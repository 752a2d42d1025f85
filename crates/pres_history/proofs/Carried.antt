-- What the index says once the writes of one entry more were carried out, and what it sent for them.
use Rattle.std.proofs.Common.{refl, sym, ◌∙◌, ap, subst, ◌≡◌, ℕ, ◌+◌, ◌^◌, ◌<◌, List, [], ◌∷◌, ◌++◌, length, map, filter, Bool, true, false, cond, append-nil, arith, length-append, Option, Some, None, unwrap_or, T, Ordering, Less, Equal, Greater}
use Rattle.std.specs.List.{list_any, flat_map, AllByRecursion}
use Rattle.std.specs.Option.{option_map}
use Rattle.std.specs.FinMap.Entries.{by_order, find, put, is_sorted, same_entries}
use Rattle.std.specs.BTreeMap.{get}
use Rattle.std.proofs.lemmas.Bool.{and_parts}
use Rattle.pres_tree.specs.Paths.{Path, sorted_by}
use Rattle.pres_write.specs.Basics.{applied}
use Rattle.pres_ids.specs.declared.id.Stamp.{Stamp}
use Rattle.pres_ids.specs.declared.id.SessionId.{SessionId}
use Rattle.pres_wire.specs.declared.down.Down.TheVariants.{Push}
use Rattle.pres_ids.specs.Ids.{ClientId, client_cmp, same_session}
use Rattle.pres_ids.specs.Numbers.{greatest_number}
use Rattle.pres_fan.specs.Listeners as fan
use Rattle.pres_fan.specs.Listeners.{IsListeners, session_cmp, is_touched}
use Rattle.pres_fan.specs.Laws.{some_paths}
use Rattle.pres_fan.proofs.Orders.{session_total, session_apart}
use Rattle.pres_fan.proofs.Rows.{touched_sorted as rows_sorted, find_touched}
use Rattle.pres_retry.specs.Tables.{rows_of}
use Rattle.pres_log.specs.declared.entry.Entry.{Entry}
use Rattle.pres_log.specs.Logs.{tree, writes_of}
use Rattle.pres_log.proofs.Entries.{tree-append}
use Rattle.pres_server.specs.declared.index.Index.{Index}
use Rattle.pres_server.specs.Answering.{shown}
use Rattle.pres_server.specs.InternalParts.{LivePart, message_next, listed}
use Rattle.pres_server.specs.InternalSessions.{Session, sent_to, sent_one, live_part, last_stamp, MaySend}
use Rattle.pres_server.specs.InternalPushes.{after_pushes, pushes, MayPush, MayPushAll}
use Rattle.pres_server.specs.InternalIndex.{session_at, gone_at, part_at, sent_at, paths_at, Carries}
use Rattle.pres_server.proofs.Clients.{session_itself, clients_apart, by_client}
use Rattle.pres_server.proofs.Reached.{InOrder, reached, stepped, step_by, after_reached, may_reach, find_reached, reached_sorted, is_found, any_found, all_members}
use Rattle.pres_history.specs.Sessions.{opens, opened, is_open, open_entries, open_sessions, open_sessions_of}
use Rattle.pres_history.specs.Listening.{listened, touched}
use Rattle.pres_history.specs.Streams.{push_of, stream, added, is_push, numbered_from}
use Rattle.pres_history.specs.InternalParts.{part_of, sent_in, live_in, Sound}
use Rattle.pres_history.specs.InternalInvariants.{Indexed}
use Rattle.pres_history.proofs.Steps.{or_false, open_listed}
use Rattle.pres_history.proofs.ListenSteps.{touched_is, touched_sorted}
use Rattle.pres_history.proofs.Parts.{only_open}
use Rattle.pres_history.proofs.AfterEntry.{first_of_list, find_open, open_is_sorted}
use Rattle.pres_history.proofs.Reached.{push_here, pushes_reached, flat_alike}
use Rattle.pres_history.proofs.Sent.{sent_between}
use Rattle.pres_history.proofs.Answers.{pushes_added}
use Rattle.pres_history.proofs.LegalLogs.{stream_small}

-- ---- the open sessions in byte order of clients

put_keyed : (s : SessionId) (xs : List (ClientId × SessionId)) → map by_client (map (λ (x : ClientId × SessionId). x.1) xs) ≡ xs
    → map by_client (map (λ (x : ClientId × SessionId). x.1) (put client_cmp s.client s xs)) ≡ put client_cmp s.client s xs
put_keyed s [] h = refl
put_keyed s (x ∷ xs) h = by (client_cmp s.client x.0) refl (put_keyed s xs (ap rest h)) where
  rest : List (ClientId × SessionId) → List (ClientId × SessionId)
  rest [] = []
  rest (y ∷ ys) = ys

  head : List (ClientId × SessionId) → ClientId × SessionId
  head [] = x
  head (y ∷ ys) = y

  values : List (ClientId × SessionId) → List (ClientId × SessionId)
  values l = map by_client (map (λ (y : ClientId × SessionId). y.1) l)

  by : (o : Ordering) → client_cmp s.client x.0 ≡ o → values (put client_cmp s.client s xs) ≡ put client_cmp s.client s xs
      → values (by_order o ((s.client, s) ∷ x ∷ xs) ((x.0, s) ∷ xs) (x ∷ put client_cmp s.client s xs)) ≡ by_order o ((s.client, s) ∷ x ∷ xs) ((x.0, s) ∷ xs) (x ∷ put client_cmp s.client s xs)
  by Less e r = ap (λ l. (s.client, s) ∷ l) h
  by Equal e r = λ i. (clients_apart s.client x.0 e i, s) ∷ ap rest h i
  by Greater e r = λ i. ap head h i ∷ r i

pub keyed : (es : List Entry) → map by_client (open_sessions es) ≡ open_entries es
keyed es = by (filter (λ s. is_open s es) (opened es)) where
  by : (ss : List SessionId) → map by_client (map (λ (x : ClientId × SessionId). x.1) (sorted_by client_cmp (map by_client ss))) ≡ sorted_by client_cmp (map by_client ss)
  by [] = refl
  by (s ∷ ss) = put_keyed s (sorted_by client_cmp (map by_client ss)) (by ss)

pub in_order : (es : List Entry) → InOrder (open_sessions es)
in_order es = subst (λ l. T (is_sorted client_cmp l)) (sym (keyed es)) (open_is_sorted es)

found : (c : ClientId) (es : List Entry) → find client_cmp c (map by_client (open_sessions es)) ≡ first_of_list (open_sessions_of c es)
found c es = ap (find client_cmp c) (keyed es) ∙ find_open c es

-- a session is among them where it is open
pub is_among : (s : SessionId) (es : List Entry) → Sound es → list_any (same_session s) (open_sessions es) ≡ is_open s es
is_among s es sound =
    any_found (open_sessions es) s (in_order es)
    ∙ ap (is_found s) (found s.client es ∙ ap first_of_list (sound.one_open s.client))
    ∙ by (live_in (open_sessions_of s.client es) es)
    ∙ sym (ap (list_any (same_session s)) (sound.one_open s.client))
    ∙ open_listed s es where
      by : (l : Option LivePart) → is_found s (first_of_list (listed s.client l)) ≡ list_any (same_session s) (listed s.client l)
      by None = refl
      by (Some l) = sym (or_false _)

all_open : (es : List Entry) → Sound es → AllByRecursion (λ s. is_open s es ≡ true) (open_sessions es)
all_open es sound = all_members (λ s. is_open s es ≡ true) (open_sessions es) (λ s k. sym (is_among s es sound) ∙ k) session_itself

was_opened : (s : SessionId) (es : List Entry) → is_open s es ≡ true → list_any (opens s) es ≡ true
was_opened s es o = (and_parts (list_any (opens s) es) _ o).0

-- ---- who is reached

-- what an entry touches of a session
abbrev pub touch : List Entry → Entry → SessionId → List Path
touch es e s = touched s (es ++ e ∷ []) e

pub touched_by : (es : List Entry) (e : Entry) (index : Index) → Indexed es index → Sound es → fan.touched (writes_of e) index.listeners ≡ reached (touch es e) (open_sessions es)
touched_by es e index ix sound =
    same_entries session_cmp session_total session_apart _ _ (rows_sorted (writes_of e) index.listeners ix.held) (reached_sorted (touch es e) (open_sessions es) (in_order es))
    (λ s.
    find_touched (writes_of e) s index.listeners
    ∙ ap (λ ps. some_paths (filter (is_touched (writes_of e)) ps)) (ix.listens s)
    ∙ by s (is_open s es) refl
    ∙ ap (λ b. cond b (some_paths (touch es e s)) None) (sym (is_among s es sound))
    ∙ sym (find_reached (touch es e) (open_sessions es) s)) where
      by : (s : SessionId) (b : Bool) → is_open s es ≡ b → some_paths (filter (is_touched (writes_of e)) (cond b (listened s es) [])) ≡ cond (is_open s es) (some_paths (touch es e s)) None
      by s true o = ap some_paths (sym (touched_is s es e (was_opened s es o))) ∙ ap (λ b. cond b (some_paths (touch es e s)) None) (sym o)
      by s false o = ap (λ b. cond b (some_paths (touch es e s)) None) (sym o)

-- where each client stands then
between_live : (es : List Entry) (e : Entry) (old mid : Index) → Indexed es old → Sound es → Carries (writes_of e) old mid → (c : ClientId)
    → session_at mid c ≡ step_by (touch es e) (first_of_list (open_sessions_of c es)) (session_at old c)
between_live es e old mid ix sound carried c =
    carried.live c
    ∙ ap (λ ts. after_pushes (session_at old) ts c) (touched_by es e old ix sound)
    ∙ after_reached (touch es e) (open_sessions es) (session_at old) (in_order es) c
    ∙ ap (λ o. step_by (touch es e) o (session_at old c)) (found c es)

part_stepped : (ps : List Path) (live : Option Session) → option_map live_part (stepped ps live) ≡ option_map live_part live
part_stepped [] live = refl
part_stepped (p ∷ ps) None = refl
part_stepped (p ∷ ps) (Some session) = refl

pub part_between : (g : SessionId → List Path) (o : Option SessionId) (live : Option Session) → option_map live_part (step_by g o live) ≡ option_map live_part live
part_between g None live = refl
part_between g (Some s) live = part_stepped (g s) live

last_stepped : (ps : List Path) (live : Option Session) (last : Option Stamp) → last_stamp (stepped ps live) last ≡ last_stamp live last
last_stepped [] live last = refl
last_stepped (p ∷ ps) None last = refl
last_stepped (p ∷ ps) (Some session) last = refl

last_between : (g : SessionId → List Path) (o : Option SessionId) (live : Option Session) (last : Option Stamp) → last_stamp (step_by g o live) last ≡ last_stamp live last
last_between g None live last = refl
last_between g (Some s) live last = last_stepped (g s) live last

one_sent : (live : Option Session) → sent_to (sent_one live) ≡ option_map (λ n. n + 1) (sent_to live)
one_sent None = refl
one_sent (Some session) = refl

sent_stepped : (es : List Entry) (e : Entry) (xs : List SessionId) (live : Option Session) → sent_to live ≡ sent_in xs es → sent_to (step_by (touch es e) (first_of_list xs) live) ≡ sent_between xs es e
sent_stepped es e [] live h = h
sent_stepped es e (s ∷ more) live h = by (touch es e s) where
  by : (ps : List Path) → sent_to (stepped ps live) ≡ Some (length (stream s es) + length (push_of s (es ++ e ∷ []) ps))
  by [] = let n : length (stream s es) ≡ length (stream s es) + 0 = omega arith in h ∙ ap Some n
  by (p ∷ ps) = one_sent live ∙ ap (option_map (λ n. n + 1)) h

-- what the index says between
pub record Between (es : List Entry) (e : Entry) (index : Index) : Type 0 where
  pub parts : (c : ClientId) → part_at index c ≡ part_of c es
  pub sent : (c : ClientId) → sent_at index c ≡ sent_between (open_sessions_of c es) es e
  pub listens : (s : SessionId) → paths_at index s ≡ cond (is_open s es) (listened s es) []
  pub held : IsListeners index.listeners
  pub tree : index.tree ≡ tree (es ++ e ∷ [])

pub between : (es : List Entry) (e : Entry) (old mid : Index) → Indexed es old → Sound es → Carries (writes_of e) old mid → Between es e mid
between es e old mid ix sound carried = record {
  parts = λ c.
      let live = between_live es e old mid ix sound carried c in
      (λ i. record {
        last = (ap (λ l. last_stamp l (gone_at mid c)) live ∙ last_between (touch es e) (first_of_list (open_sessions_of c es)) (session_at old c) (gone_at mid c) ∙ ap (λ g. last_stamp (session_at old c) (get client_cmp g c)) carried.gone) i;
        rows = rows_of c (carried.retry i);
        live = (ap (option_map live_part) live ∙ part_between (touch es e) (first_of_list (open_sessions_of c es)) (session_at old c)) i;
      })
      ∙ ix.parts c;
  sent = λ c. ap sent_to (between_live es e old mid ix sound carried c) ∙ sent_stepped es e (open_sessions_of c es) (session_at old c) (ix.sent c);
  listens = λ s. ap (fan.paths_of s) carried.listeners ∙ ix.listens s;
  held = subst IsListeners (sym carried.listeners) ix.held;
  tree = carried.tree ∙ ap (λ t. applied t (writes_of e)) ix.tree ∙ sym (tree-append es (e ∷ []) ∙ ap (applied (tree es)) (append-nil (writes_of e)));
}

-- ---- what was sent

sent_open : (es : List Entry) (index : Index) (s : SessionId) → Indexed es index → Sound es → is_open s es ≡ true → sent_to (session_at index s.client) ≡ Some (length (stream s es))
sent_open es index s ix sound o = ix.sent s.client ∙ ap (λ l. sent_in l es) (only_open s es sound o)

pub pushes_are : (es : List Entry) (e : Entry) (old mid : Index) → Indexed es old → Sound es → Carries (writes_of e) old mid
    → pushes (length es + 1) mid.tree (session_at old) (fan.touched (writes_of e) old.listeners) ≡ flat_map (λ s. filter is_push (added s es e)) (open_sessions es)
pushes_are es e old mid ix sound carried =
    ap (pushes (length es + 1) mid.tree (session_at old)) (touched_by es e old ix sound)
    ∙ pushes_reached (length es + 1) mid.tree (touch es e) (open_sessions es) (session_at old) (in_order es)
    ∙ flat_alike (λ s. is_open s es ≡ true) _ _ (open_sessions es) (all_open es sound) (λ s o. by s o (touch es e s) ∙ sym (pushes_added s es e o)) where
      now : List Entry
      now = es ++ e ∷ []

      by : (s : SessionId) → is_open s es ≡ true → (ps : List Path) → push_here (length es + 1) mid.tree (session_at old) s ps ≡ numbered_from (length (stream s es) + 1) (push_of s now ps)
      by s o [] = refl
      by s o (p ∷ ps) =
          ap (λ n. message_next n (λ r. Push s r (length es + 1) (map (shown mid.tree) (p ∷ ps)))) (sent_open es old s ix sound o)
          ∙ λ i. Push s (length (stream s es) + 1) (sym (length-append es (e ∷ [])) i) (map (shown ((between es e old mid ix sound carried).tree i)) (p ∷ ps)) ∷ []

may_send : (live : Option Session) (n : ℕ) → sent_to live ≡ Some n → n < greatest_number → MaySend live
may_send None n k h = absurd (cc)
may_send (Some session) n k h = let e : session.sent ≡ n = ap (λ (o : Option ℕ). unwrap_or o n) k in omega arith

pub may_push : (es : List Entry) (e : Entry) (index : Index) → Indexed es index → Sound es → length es + 1 < 2 ^ 52 → MayPushAll (session_at index) (fan.touched (writes_of e) index.listeners)
may_push es e index ix sound small =
    subst (MayPushAll (session_at index)) (sym (touched_by es e index ix sound))
    (may_reach (touch es e) (open_sessions es) (session_at index) (in_order es) (each (open_sessions es) (all_open es sound))) where
      one : (s : SessionId) → is_open s es ≡ true → MayPush (session_at index) (s, touch es e s)
      one s o =
          let n = stream_small s es in
          record { number = may_send (session_at index s.client) (length (stream s es)) (sent_open es index s ix sound o) (omega arith); order = touched_sorted s (es ++ e ∷ []) e }

      each : (ss : List SessionId) → AllByRecursion (λ s. is_open s es ≡ true) ss → AllByRecursion (λ s. MayPush (session_at index) (s, touch es e s)) ss
      each [] a = tt
      each (s ∷ ss) a = (one s a.0, each ss a.1)
