-- The sessions that the writes of an entry touch, by the sum: those of the open ones that listen there, once each.
use Rattle.std.proofs.Common.{refl, sym, ◌∙◌, ap, subst, ◌≡◌, ℕ, ◌+◌, ◌*◌, ◌≤◌, List, [], ◌∷◌, map, fold, filter, Bool, true, false, cond, ◌&&◌, ◌==◌, arith, Option, Some, None, IfSome}
use Rattle.std.specs.List.{list_any}
use Rattle.std.specs.Option.{option_map}
use Rattle.std.specs.Map.{keys_of}
use Rattle.std.specs.List.Sorted.{IsStrictlySortedBy}
use Rattle.std.specs.Ordering.{is_eq}
use Rattle.std.specs.FinMap.Entries.{find, same_entries}
use Rattle.pres_tree.specs.Paths.{Path}
use Rattle.pres_write.specs.Basics.{BasicWrite}
use Rattle.pres_ids.specs.declared.id.Stamp.{Stamp}
use Rattle.pres_ids.specs.declared.id.SessionId.{SessionId}
use Rattle.pres_ids.specs.Ids.{ClientId, client_cmp, same_client, same_session, stamp_of}
use Rattle.pres_retry.specs.Tables.{Table}
use Rattle.pres_fan.specs.Listeners.{session_cmp, is_touched, touched}
use Rattle.pres_fan.specs.Laws.{some_paths}
use Rattle.pres_fan.proofs.Orders.{session_total, session_apart}
use Rattle.pres_fan.proofs.Rows.{touched_sorted, find_touched}
use Rattle.pres_log.specs.declared.entry.Entry.{Entry}
use Rattle.pres_log.specs.Logs.{writes_of}
use Rattle.pres_server.specs.InternalParts.{IsAsked, is_live, session_with}
use Rattle.pres_server.specs.InternalSessions.{Session, sent_one}
use Rattle.pres_server.specs.InternalPushes.{TouchedSession, Standing, after_push, after_pushes}
use Rattle.pres_server.proofs.Clients.{client_same, client_itself}
use Rattle.pres_server.proofs.Clients.{same_by_cmp, by_client}
use Rattle.pres_server.proofs.Reached.{InOrder, reached, stepped, step_by, after_reached, find_reached, reached_sorted, is_found, any_found}
use Rattle.pres_server.specs.Sums.{Sum, OpenSession, OpenSessions, live_of, part_by, part_in, paths_in, is_open_in, sent_more, pushed, carried}
use Rattle.pres_server.specs.Histories.{IsOpenSession, Keeps}
use Rattle.pres_server.proofs.Keyed.{in_order, find_changed}
use Rattle.pres_server.specs.InternalSums.{open_of}

-- ---- the open sessions in byte order of their clients

abbrev pub ids : OpenSessions → List SessionId
ids sessions = map (λ (e : ClientId × OpenSession). session_with e.0 e.1.stamp) sessions

keys_are : (es : OpenSessions) → keys_of (map by_client (ids es)) ≡ keys_of es
keys_are [] = refl
keys_are (e ∷ es) = ap (λ l. e.0 ∷ l) (keys_are es)

pub ids_in_order : (es : OpenSessions) → IsStrictlySortedBy client_cmp (keys_of es) → InOrder (ids es)
ids_in_order es h = in_order (map by_client (ids es)) (subst (IsStrictlySortedBy client_cmp) (sym (keys_are es)) h)

ids_found : (c : ClientId) (es : OpenSessions) → find client_cmp c (map by_client (ids es)) ≡ option_map (λ (o : OpenSession). session_with c o.stamp) (find client_cmp c es)
ids_found c [] = refl
ids_found c (e ∷ es) = by (is_eq (client_cmp c e.0)) refl (ids_found c es) where
  by : (b : Bool) → is_eq (client_cmp c e.0) ≡ b → find client_cmp c (map by_client (ids es)) ≡ option_map (λ (o : OpenSession). session_with c o.stamp) (find client_cmp c es)
      → cond b (Some (session_with e.0 e.1.stamp)) (find client_cmp c (map by_client (ids es))) ≡ option_map (λ (o : OpenSession). session_with c o.stamp) (cond b (Some e.1) (find client_cmp c es))
  by true h r = ap (λ k. Some (session_with k e.1.stamp)) (sym (client_same c e.0 (sym (same_by_cmp c e.0) ∙ h)))
  by false h r = r

-- a session is among them where it is open
pub is_among : (s : SessionId) (sum : Sum) → IsStrictlySortedBy client_cmp (keys_of sum.sessions) → list_any (same_session s) (ids sum.sessions) ≡ is_open_in s sum
is_among s sum h =
    any_found (ids sum.sessions) s (ids_in_order sum.sessions h)
    ∙ ap (is_found s) (ids_found s.client sum.sessions)
    ∙ by (find client_cmp s.client sum.sessions) where
      by : (o : Option OpenSession) → is_found s (option_map (λ (x : OpenSession). session_with s.client x.stamp) o) ≡ is_live (option_map live_of o) (stamp_of s)
      by None = refl
      by (Some x) = ap (λ b. b && s.incarnation == x.stamp.incarnation && s.attempt == x.stamp.attempt) (client_itself s.client)

-- ---- who is reached

-- what the writes touch of a session
abbrev pub touch : List BasicWrite → Sum → SessionId → List Path
touch writes sum s = filter (is_touched writes) (paths_in sum s)

pub touched_by : (writes : List BasicWrite) (sum : Sum) → Keeps sum → touched writes sum.listeners ≡ reached (touch writes sum) (ids sum.sessions)
touched_by writes sum k =
    same_entries session_cmp session_total session_apart _ _ (touched_sorted writes sum.listeners k.listeners) (reached_sorted (touch writes sum) (ids sum.sessions) (ids_in_order sum.sessions k.sessions))
    (λ s.
    find_touched writes s sum.listeners
    ∙ by s (is_open_in s sum) refl
    ∙ ap (λ b. cond b (some_paths (touch writes sum s)) None) (sym (is_among s sum k.sessions))
    ∙ sym (find_reached (touch writes sum) (ids sum.sessions) s)) where
      by : (s : SessionId) (b : Bool) → is_open_in s sum ≡ b → some_paths (touch writes sum s) ≡ cond (is_open_in s sum) (some_paths (touch writes sum s)) None
      by s true o = ap (λ b. cond b (some_paths (touch writes sum s)) None) (sym o)
      by s false o = ap (λ ps. some_paths (filter (is_touched writes) ps)) (k.listening s o) ∙ ap (λ b. cond b (some_paths (touch writes sum s)) None) (sym o)

-- ---- where each client stands after the Pushes

-- the sum's sessions are those that stand there
abbrev pub Stands : OpenSessions → Standing → Type 0
Stands sessions live = (c : ClientId) → find client_cmp c sessions ≡ option_map open_of (live c)

one_more : (o : Option Session) → option_map sent_more (option_map open_of o) ≡ option_map open_of (sent_one o)
one_more None = refl
one_more (Some session) = refl

pub push_stands : (t : TouchedSession) (es : OpenSessions) (live : Standing) → Stands es live → Stands (pushed es t) (after_push live t)
push_stands t es live f c = find_changed t.0.client sent_more es c ∙ by (same_client t.0.client c) where
  by : (b : Bool) → cond b (option_map sent_more (find client_cmp c es)) (find client_cmp c es) ≡ option_map open_of (cond b (sent_one (live c)) (live c))
  by true = ap (option_map sent_more) (f c) ∙ one_more (live c)
  by false = f c

pub pushes_stand : (ts : List TouchedSession) (es : OpenSessions) (live : Standing) → Stands es live → Stands (fold pushed es ts) (after_pushes live ts)
pushes_stand [] es live f = f
pushes_stand (t ∷ ts) es live f = pushes_stand ts (pushed es t) (after_push live t) (push_stands t es live f)

-- a session as an index has it, whose client was heard of at no moment that matters
abbrev back : OpenSession → Session
back o = record { stamp = o.stamp; count = o.count; sent = o.sent; heard = 0; plan = o.plan }

abbrev lives : OpenSessions → Standing
lives es = λ c. option_map back (find client_cmp c es)

lives_stand : (es : OpenSessions) → Stands es (lives es)
lives_stand es c = by (find client_cmp c es) where
  by : (o : Option OpenSession) → o ≡ option_map open_of (option_map back o)
  by None = refl
  by (Some x) = refl

-- a client's session after a Push of what is touched of it, if something is
carried_at : (e : Entry) (sum : Sum) → Keeps sum → (c : ClientId)
    → find client_cmp c (carried e sum).sessions ≡ option_map open_of (step_by (touch (writes_of e) sum) (find client_cmp c (map by_client (ids sum.sessions))) (option_map back (find client_cmp c sum.sessions)))
carried_at e sum k c =
    pushes_stand (touched (writes_of e) sum.listeners) sum.sessions (lives sum.sessions) (lives_stand sum.sessions) c
    ∙ ap (λ ts. option_map open_of (after_pushes (lives sum.sessions) ts c)) (touched_by (writes_of e) sum k)
    ∙ ap (option_map open_of) (after_reached (touch (writes_of e) sum) (ids sum.sessions) (lives sum.sessions) (ids_in_order sum.sessions k.sessions) c)

-- a Push changes nothing that a sum says of a client
part_pushed : (paths : List Path) (o : Option OpenSession) (last : Option Stamp) (rows : Table) (c : ClientId) → part_by (option_map open_of (stepped paths (option_map back o))) last rows c ≡ part_by o last rows c
part_pushed [] None last rows c = refl
part_pushed [] (Some o) last rows c = refl
part_pushed (p ∷ paths) None last rows c = refl
part_pushed (p ∷ paths) (Some o) last rows c = refl

part_stepped : (g : SessionId → List Path) (s : Option SessionId) (o : Option OpenSession) (last : Option Stamp) (rows : Table) (c : ClientId) → part_by (option_map open_of (step_by g s (option_map back o))) last rows c ≡ part_by o last rows c
part_stepped g None o last rows c = part_pushed [] o last rows c
part_stepped g (Some s) o last rows c = part_pushed (g s) o last rows c

pub part_carried : (e : Entry) (sum : Sum) → Keeps sum → (c : ClientId) → part_in (carried e sum) c ≡ part_in sum c
part_carried e sum k c =
    ap (λ o. part_by o (find client_cmp c sum.gone) sum.rows c) (carried_at e sum k c)
    ∙ part_stepped (touch (writes_of e) sum) (find client_cmp c (map by_client (ids sum.sessions))) (find client_cmp c sum.sessions) (find client_cmp c sum.gone) sum.rows c

-- what holds of an open session between the writes of an entry and its answer
pub record IsPushed (number : ℕ) (session : OpenSession) : Type 0 where
  pub count : session.count ≤ number
  pub sent : session.sent ≤ 2 * number + 1
  pub asked : IsAsked (Some (live_of session))

is_pushed : (n : ℕ) (paths : List Path) (o : Option OpenSession) → IfSome o (IsOpenSession n) → IfSome (option_map open_of (stepped paths (option_map back o))) (IsPushed n)
is_pushed n [] None h = tt
is_pushed n [] (Some o) h = let small = h.sent in record { count = h.count; sent = omega arith; asked = h.asked }
is_pushed n (p ∷ paths) None h = tt
is_pushed n (p ∷ paths) (Some o) h = let small = h.sent in record { count = h.count; sent = omega arith; asked = h.asked }

pub each_pushed : (e : Entry) (sum : Sum) → Keeps sum → (c : ClientId) → IfSome (find client_cmp c (carried e sum).sessions) (IsPushed sum.number)
each_pushed e sum k c = subst (λ o. IfSome o (IsPushed sum.number)) (sym (carried_at e sum k c)) (by (find client_cmp c (map by_client (ids sum.sessions))) (k.each c)) where
  by : (s : Option SessionId) → IfSome (find client_cmp c sum.sessions) (IsOpenSession sum.number)
      → IfSome (option_map open_of (step_by (touch (writes_of e) sum) s (option_map back (find client_cmp c sum.sessions)))) (IsPushed sum.number)
  by None h = is_pushed sum.number [] (find client_cmp c sum.sessions) h
  by (Some s) h = is_pushed sum.number (touch (writes_of e) sum s) (find client_cmp c sum.sessions) h
