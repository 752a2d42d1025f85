-- What the sum says of an index that takes in an entry, and what it asks of the entry.
use Rattle.std.proofs.Common.{refl, sym, ◌∙◌, ap, subst, ◌≡◌, ℕ, ◌+◌, ◌-◌, ◌^◌, ◌<◌, ◌≤◌, List, [], ◌∷◌, ◌++◌, length, map, slice_get, Bool, true, false, not, cond, inl, inr, arith, IsTrue, Option, Some, None, is_some, unwrap_or, IfSome}
use Rattle.std.specs.Option.{option_map}
use Rattle.std.specs.BTreeMap.{get, IsOrdered, Updates}
use Rattle.std.specs.FinMap.Entries.{find, put, where_key, is_sorted-where_key, find-where_key, same_entries}
use Rattle.std.proofs.lemmas.Option.{slice_get_cases}
use Rattle.pres_tree.specs.declared.scalar.Scalar.{Scalar}
use Rattle.pres_tree.specs.Paths.{Path}
use Rattle.pres_tree.specs.Rows.{Rows}
use Rattle.pres_write.specs.declared.basic.Basic.{Basic}
use Rattle.pres_write.specs.Basics.{applied}
use Rattle.pres_ids.specs.declared.id.Stamp.{Stamp}
use Rattle.pres_ids.specs.declared.id.SessionId.{SessionId}
use Rattle.pres_ids.specs.Ids.{ClientId, client_cmp, same_client, stamp_of}
use Rattle.pres_ids.specs.Numbers.{greatest_number}
use Rattle.pres_wire.specs.declared.down.Down.{Down}
use Rattle.pres_wire.specs.declared.down.Down.TheVariants.{Push}
use Rattle.pres_retry.specs.declared.table.Row.{Row}
use Rattle.pres_retry.specs.Tables.{Table, rows_of}
use Rattle.pres_retry.specs.Verdicts.{verdict, again}
use Rattle.pres_plan.specs.Plans.{most_rows, due}
use Rattle.pres_fan.specs.Listeners.{IsListeners, most_paths, paths_of, add_path, with_listener, touched}
use Rattle.pres_fan.proofs.Places.{with_step}
use Rattle.pres_fan.proofs.Rows.{touched_paths_rise}
use Rattle.pres_log.specs.declared.entry.Entry.{Entry}
use Rattle.pres_log.specs.declared.entry.Entry.TheVariants as entry
use Rattle.pres_log.specs.Logs.{writes_of}
use Rattle.pres_server.specs.declared.index.Index.{Index}
use Rattle.pres_server.specs.declared.index.LogPosition.{LogPosition}
use Rattle.pres_server.specs.Sessions.{session_of}
use Rattle.pres_server.specs.Answering.{shown}
use Rattle.pres_server.specs.InternalParts.{LivePart, Part, IsAsked, plan_in, plan_after, comes_after, is_live, message_next, answer_by}
use Rattle.pres_server.specs.InternalSessions.{Session, live_after, last_stamp, live_part, sent_to, sent_one, HasRoom, MaySend, MayOpen, MayLeaveAt, AreDueAt}
use Rattle.pres_server.specs.InternalSessions as places
use Rattle.pres_server.specs.InternalPushes.{TouchedSession, Standing, after_push, after_pushes, pushes, MayPush, MayPushAll}
use Rattle.pres_server.specs.InternalIndex.{session_at, gone_at, part_at, sent_at, paths_at, Carries, Steps, TakesEntry, MayTake, MayCarry, retry_after, listeners_after}
use Rattle.pres_server.specs.InternalFollows.{IsNextBy}
use Rattle.pres_server.specs.Sums.{Sum, OpenSession, OpenSessions, live_of, part_by, part_in, paths_in, sent_by, changed, pushed, carried, began, answered, sessions_after, gone_after, entered, sum_after}
use Rattle.pres_server.specs.SumAnswers.{pushes_by, answers_to_by}
use Rattle.pres_server.specs.Histories.{IsOpenSession, Keeps}
use Rattle.pres_server.specs.InternalSums.{open_of, is_gone, sessions_in, gone_in, sum_in, Agrees, MayEnter, MayEnterAll, MayTakeFrom}
use Rattle.pres_server.proofs.Clients.{client_same, session_itself}
use Rattle.pres_server.proofs.Clients.{clients_total, clients_apart, same_by_cmp}
use Rattle.pres_server.proofs.Reached.{may_reach, all_members}
use Rattle.pres_server.proofs.Heard.{find_behind, behind_sorted}
use Rattle.pres_server.proofs.Taken.{may_open, is_again, leaves_by, due_by, live_new, gone_changed}
use Rattle.pres_server.proofs.Keyed.{found, find_put, find_others, find_changed, in_order}
use Rattle.pres_server.proofs.Touching.{Stands, IsPushed, ids, ids_in_order, is_among, touch, touched_by, push_stands, pushes_stand, part_carried, each_pushed}
use Rattle.pres_server.proofs.KeptSums.{next_is, next_open, some_live, last_is, kept_after}

-- ---- what it says of a client

part_same : (live : Option Session) (last : Option Stamp) (table : Table) (c : ClientId)
    → part_by (option_map open_of live) (cond (is_some live) None last) table c ≡ record { last = last_stamp live last; rows = rows_of c table; live = option_map live_part live }
part_same None last table c = refl
part_same (Some session) last table c = refl

pub part_agrees : (index : Index) (sum : Sum) → Agrees index sum → (c : ClientId) → part_in sum c ≡ part_at index c
part_agrees index sum a c = (λ i. part_by (a.sessions c i) (a.gone c i) (a.rows i) c) ∙ part_same (session_at index c) (gone_at index c) index.retry c

sent_same : (live : Option Session) → option_map (λ (session : OpenSession). session.sent) (option_map open_of live) ≡ sent_to live
sent_same None = refl
sent_same (Some session) = refl

pub sent_agrees : (index : Index) (sum : Sum) → Agrees index sum → (c : ClientId) → sent_by c sum.sessions ≡ sent_at index c
sent_agrees index sum a c = ap (option_map (λ (session : OpenSession). session.sent)) (a.sessions c) ∙ sent_same (session_at index c)

gone_found : (index : Index) (c : ClientId) → find client_cmp c (gone_in index) ≡ cond (is_some (session_at index c)) None (gone_at index c)
gone_found index c =
    find-where_key client_cmp (is_gone index) c (λ x e. ap (is_gone index) (sym (clients_apart c x e))) index.places.gone.entries
    ∙ (λ i. cond (is_gone index c) (found c index.places.gone.entries i) None)
    ∙ by (is_some (session_at index c)) where
      by : (b : Bool) → cond (not b) (gone_at index c) None ≡ cond b None (gone_at index c)
      by true = refl
      by false = refl

-- ---- the writes of an entry

some_push : (live : Standing) (t : TouchedSession) (c : ClientId) → is_some (after_push live t c) ≡ is_some (live c)
some_push live t c = by (same_client t.0.client c) (live c) where
  by : (b : Bool) (o : Option Session) → is_some (cond b (sent_one o) o) ≡ is_some o
  by true None = refl
  by true (Some session) = refl
  by false o = refl

some_pushes : (live : Standing) (ts : List TouchedSession) (c : ClientId) → is_some (after_pushes live ts c) ≡ is_some (live c)
some_pushes live [] c = refl
some_pushes live (t ∷ ts) c = some_pushes (after_push live t) ts c ∙ some_push live t c

pub agrees_carried : (e : Entry) (old mid : Index) (sum : Sum) → Agrees old sum → Carries (writes_of e) old mid → Agrees mid (carried e sum)
agrees_carried e old mid sum a k = record {
  sessions = λ c.
      pushes_stand (touched (writes_of e) sum.listeners) sum.sessions (session_at old) a.sessions c
      ∙ ap (λ ls. option_map open_of (after_pushes (session_at old) (touched (writes_of e) ls) c)) a.listeners
      ∙ ap (option_map open_of) (sym (k.live c));
  gone = λ c. a.gone c ∙ (λ i. cond (some c i) None (gone_same c i));
  rows = a.rows ∙ sym k.retry;
  listeners = a.listeners ∙ sym k.listeners;
  tree = ap (λ t. applied t (writes_of e)) a.tree ∙ sym k.tree;
} where
  some : (c : ClientId) → is_some (session_at old c) ≡ is_some (session_at mid c)
  some c = sym (ap is_some (k.live c) ∙ some_pushes (session_at old) (touched (writes_of e) old.listeners) c)

  gone_same : (c : ClientId) → gone_at old c ≡ gone_at mid c
  gone_same c = ap (λ m. get client_cmp m c) (sym k.gone)

-- ---- the entry itself

-- the sum's sessions are those of the index
abbrev Named : OpenSessions → Index → Type 0
Named sessions index = (c : ClientId) → find client_cmp c sessions ≡ option_map open_of (session_at index c)

-- an entry of the open session that answers it
abbrev IsAnswered : ℕ → Entry → Type 0
IsAnswered m e = (live : Option Session) → live_after m e live ≡ option_map (λ session. places.answered m (plan_after e session.plan) session) live

answered_as : (m : ℕ) (e : Entry) (live : Option Session) → option_map (answered e) (option_map open_of live) ≡ option_map open_of (option_map (λ session. places.answered m (plan_after e session.plan) session) live)
answered_as m e None = refl
answered_as m e (Some session) = refl

some_answered : (m : ℕ) (e : Entry) (live : Option Session) → is_some (option_map (λ session. places.answered m (plan_after e session.plan) session) live) ≡ is_some live
some_answered m e None = refl
some_answered m e (Some session) = refl

module _ (z m : ℕ) (mid new : Index) where
  own_named : (e : Entry) (sessions : OpenSessions) → Named sessions mid → Steps z m mid new e → IsAnswered m e → Named (changed (session_of e).client (answered e) sessions) new
  own_named e sessions f st same c = find_changed k (answered e) sessions c ∙ by (same_client k c) refl where
    k : ClientId
    k = (session_of e).client

    by : (b : Bool) → same_client k c ≡ b → cond b (option_map (answered e) (find client_cmp c sessions)) (find client_cmp c sessions) ≡ option_map open_of (session_at new c)
    by true h =
        ap (option_map (answered e)) (f c ∙ ap (λ x. option_map open_of (session_at mid x)) (sym (client_same k c h)))
        ∙ answered_as m e (session_at mid k)
        ∙ ap (option_map open_of) (sym (live_new z m mid new e st c true h ∙ same (session_at mid k)))
    by false h = f c ∙ ap (option_map open_of) (sym (live_new z m mid new e st c false h))

  opened_named : (s : SessionId) (sessions : OpenSessions) → Named sessions mid → Steps z m mid new (entry.Open s) → Named (put client_cmp s.client (began (stamp_of s)) sessions) new
  opened_named s sessions f st c = find_put s.client (began (stamp_of s)) sessions c ∙ by (same_client s.client c) refl where
    by : (b : Bool) → same_client s.client c ≡ b → cond b (Some (began (stamp_of s))) (find client_cmp c sessions) ≡ option_map open_of (session_at new c)
    by true h = ap (option_map open_of) (sym (live_new z m mid new (entry.Open s) st c true h))
    by false h = f c ∙ ap (option_map open_of) (sym (live_new z m mid new (entry.Open s) st c false h))

  sessions_named : (e : Entry) (sessions : OpenSessions) → Named sessions mid → Steps z m mid new e → Named (sessions_after e sessions) new
  sessions_named (entry.Open s) sessions f st = opened_named s sessions f st
  sessions_named (entry.Op s q n op outcome) sessions f st = own_named (entry.Op s q n op outcome) sessions f st (λ _. refl)
  sessions_named (entry.Again s q n) sessions f st = own_named (entry.Again s q n) sessions f st (λ _. refl)
  sessions_named (entry.Left s q puts) sessions f st = own_named (entry.Left s q puts) sessions f st (λ _. refl)
  sessions_named (entry.Cancelled s q path) sessions f st = own_named (entry.Cancelled s q path) sessions f st (λ _. refl)
  sessions_named (entry.Denied s q why) sessions f st = own_named (entry.Denied s q why) sessions f st (λ _. refl)
  sessions_named (entry.On s q path) sessions f st = own_named (entry.On s q path) sessions f st (λ _. refl)
  sessions_named (entry.Off s q path) sessions f st = own_named (entry.Off s q path) sessions f st (λ _. refl)
  sessions_named (entry.Ended s q why rows) sessions f st = λ c. find_others s.client sessions c ∙ by c (same_client s.client c) refl where
    e : Entry
    e = entry.Ended s q why rows

    by : (c : ClientId) (b : Bool) → same_client s.client c ≡ b → cond b None (find client_cmp c sessions) ≡ option_map open_of (session_at new c)
    by c true h = ap (option_map open_of) (sym (live_new z m mid new e st c true h))
    by c false h = f c ∙ ap (option_map open_of) (sym (live_new z m mid new e st c false h))

-- the stamps of those that are gone are those of the index
abbrev Left : List (ClientId × Stamp) → Index → Type 0
Left gone index = (c : ClientId) → find client_cmp c gone ≡ cond (is_some (session_at index c)) None (gone_at index c)

-- the index has the stamp of a session that ends as its client's last
abbrev pub KnowsLast : Index → Entry → Type 0
KnowsLast index (entry.Ended s q why rows) = last_stamp (session_at index s.client) (gone_at index s.client) ≡ Some (stamp_of s)
KnowsLast index _ = Unit {0}

module _ (z m : ℕ) (mid new : Index) where
  own_left : (e : Entry) (gone : List (ClientId × Stamp)) → Left gone mid → Steps z m mid new e → IsAnswered m e → new.places.gone ≡ mid.places.gone → Left gone new
  own_left e gone f st same stays c = f c ∙ (λ i. cond (sym (some (same_client k c) refl) i) None (get client_cmp (sym stays i) c)) where
    k : ClientId
    k = (session_of e).client

    some : (b : Bool) → same_client k c ≡ b → is_some (session_at new c) ≡ is_some (session_at mid c)
    some true h =
        ap is_some (live_new z m mid new e st c true h ∙ same (session_at mid k))
        ∙ some_answered m e (session_at mid k)
        ∙ ap (λ x. is_some (session_at mid x)) (client_same k c h)
    some false h = ap is_some (live_new z m mid new e st c false h)

  left : (e : Entry) (gone : List (ClientId × Stamp)) → Left gone mid → KnowsLast mid e → Steps z m mid new e → Left (gone_after e gone) new
  left (entry.Open s) gone f last st = λ c. find_others s.client gone c ∙ by c (same_client s.client c) refl where
    by : (c : ClientId) (b : Bool) → same_client s.client c ≡ b → cond b None (find client_cmp c gone) ≡ cond (is_some (session_at new c)) None (gone_at new c)
    by c true h = sym (ap (λ o. cond (is_some o) None (gone_at new c)) (live_new z m mid new (entry.Open s) st c true h))
    by c false h = f c ∙ (λ i. cond (is_some (sym (live_new z m mid new (entry.Open s) st c false h) i)) None (sym (gone_changed mid new s.client None st.gone c false h) i))
  left (entry.Op s q n op outcome) gone f last st = own_left (entry.Op s q n op outcome) gone f st (λ _. refl) st.gone
  left (entry.Again s q n) gone f last st = own_left (entry.Again s q n) gone f st (λ _. refl) st.gone
  left (entry.Left s q puts) gone f last st = own_left (entry.Left s q puts) gone f st (λ _. refl) st.gone
  left (entry.Cancelled s q path) gone f last st = own_left (entry.Cancelled s q path) gone f st (λ _. refl) st.gone
  left (entry.Denied s q why) gone f last st = own_left (entry.Denied s q why) gone f st (λ _. refl) st.gone
  left (entry.On s q path) gone f last st = own_left (entry.On s q path) gone f st (λ _. refl) st.gone
  left (entry.Off s q path) gone f last st = own_left (entry.Off s q path) gone f st (λ _. refl) st.gone
  left (entry.Ended s q why rows) gone f last st = λ c. find_put s.client (stamp_of s) gone c ∙ by c (same_client s.client c) refl where
    e : Entry
    e = entry.Ended s q why rows

    was : Option Stamp
    was = last_stamp (session_at mid s.client) (gone_at mid s.client)

    by : (c : ClientId) (b : Bool) → same_client s.client c ≡ b → cond b (Some (stamp_of s)) (find client_cmp c gone) ≡ cond (is_some (session_at new c)) None (gone_at new c)
    by c true h = sym (λ i. cond (is_some (live_new z m mid new e st c true h i)) None ((gone_changed mid new s.client was st.gone c true h ∙ last) i))
    by c false h = f c ∙ (λ i. cond (is_some (sym (live_new z m mid new e st c false h) i)) None (sym (gone_changed mid new s.client was st.gone c false h) i))

pub agrees_entered : (z m : ℕ) (e : Entry) (mid new : Index) (sum : Sum) → z ≡ sum.number + 1 → Agrees mid sum → KnowsLast mid e → Steps z m mid new e → Agrees new (entered e sum)
agrees_entered z m e mid new sum n a last st = record {
  sessions = sessions_named z m mid new e sum.sessions a.sessions st;
  gone = left z m mid new e sum.gone a.gone last st;
  rows = (λ i. retry_after (sym n i) e (a.rows i)) ∙ sym st.retry;
  listeners = ap (listeners_after e) a.listeners ∙ sym st.listeners;
  tree = a.tree ∙ sym st.tree;
}

-- ---- what it answers

pushes_agree : (z : ℕ) (tree : Rows Scalar) (ts : List TouchedSession) (sessions : OpenSessions) (live : Standing) → Stands sessions live → pushes_by z tree sessions ts ≡ pushes z tree live ts
pushes_agree z tree [] sessions live f = refl
pushes_agree z tree (t ∷ ts) sessions live f =
    let sent : sent_by t.0.client sessions ≡ sent_to (live t.0.client) =
    ap (option_map (λ (session : OpenSession). session.sent)) (f t.0.client) ∙ sent_same (live t.0.client) in
    let more : pushes_by z tree (pushed sessions t) ts ≡ pushes z tree (after_push live t) ts = pushes_agree z tree ts (pushed sessions t) (after_push live t) (push_stands t sessions live f) in
    λ i. message_next (sent i) (λ r. Push t.0 r z (map (shown tree) t.1)) ++ more i

pub answers_agree : (z : ℕ) (e : Entry) (old mid : Index) (sum : Sum) → z ≡ sum.number + 1 → Agrees old sum → Carries (writes_of e) old mid
    → answers_to_by sum e ≡ pushes z mid.tree (session_at old) (touched (writes_of e) old.listeners) ++ answer_by z e (part_at mid (session_of e).client).rows (sent_at mid (session_of e).client) mid.tree
answers_agree z e old mid sum n a k = λ i. all_pushes i ++ own i where
  c : ClientId
  c = (session_of e).client

  b : Agrees mid (carried e sum)
  b = agrees_carried e old mid sum a k

  all_pushes : pushes_by (sum.number + 1) (carried e sum).tree sum.sessions (touched (writes_of e) sum.listeners) ≡ pushes z mid.tree (session_at old) (touched (writes_of e) old.listeners)
  all_pushes =
      (λ i. pushes_by (sym n i) (b.tree i) sum.sessions (touched (writes_of e) (a.listeners i)))
      ∙ pushes_agree z mid.tree (touched (writes_of e) old.listeners) sum.sessions (session_at old) a.sessions

  own : answer_by (sum.number + 1) e (part_in sum c).rows (sent_by c (carried e sum).sessions) (carried e sum).tree ≡ answer_by z e (part_at mid c).rows (sent_at mid c) mid.tree
  own = λ i. answer_by (sym n i) e (rows_of c (b.rows i)) (sent_agrees mid (carried e sum) b c i) (b.tree i)

-- ---- what it asks: that they may be sent it

send_by : (live : Option Session) (x : OpenSession) → option_map open_of live ≡ Some x → x.sent < greatest_number → MaySend live
send_by None x k h = absurd (cc)
send_by (Some session) x k h = let e : session.sent ≡ x.sent = ap (λ (o : Option OpenSession). (unwrap_or o x).sent) k in omega arith

pub may_push : (e : Entry) (index : Index) (sum : Sum) → Agrees index sum → Keeps sum → sum.number + 1 < 2 ^ 52 → MayPushAll (session_at index) (touched (writes_of e) index.listeners)
may_push e index sum a k small =
    subst (MayPushAll (session_at index)) (sym (ap (touched (writes_of e)) (sym a.listeners) ∙ touched_by (writes_of e) sum k))
    (may_reach (touch (writes_of e) sum) (ids sum.sessions) (session_at index) (ids_in_order sum.sessions k.sessions)
    (all_members (λ s. MayPush (session_at index) (s, touch (writes_of e) sum s)) (ids sum.sessions) (λ s h. one s (sym (is_among s sum k.sessions) ∙ h)) session_itself)) where
      sends : (s : SessionId) (x : OpenSession) → find client_cmp s.client sum.sessions ≡ Some x → MaySend (session_at index s.client)
      sends s x here =
          let each = subst (λ o. IfSome o (IsOpenSession sum.number)) here (k.each s.client) in
          let few = each.sent in
          send_by (session_at index s.client) x (sym (a.sessions s.client) ∙ here) (omega arith)

      one : (s : SessionId) → is_live (part_in sum s.client).live (stamp_of s) ≡ true → MayPush (session_at index) (s, touch (writes_of e) sum s)
      one s o =
          let here = some_live (find client_cmp s.client sum.sessions) (stamp_of s) o in
          record { number = sends s here.0 here.1; order = touched_paths_rise (writes_of e) s sum.listeners k.listeners }

-- ---- and that it may be taken in, once its writes are carried out

-- an open session, then
record Here (sum : Sum) (mid : Index) (s : SessionId) : Type 0 where
  stands : OpenSession
  there : option_map open_of (session_at mid s.client) ≡ Some stands
  is_pushed : IsPushed sum.number stands
  live : (part_in sum s.client).live ≡ Some (live_of stands)
  part : option_map live_part (session_at mid s.client) ≡ Some (live_of stands)

room_by : (n : ℕ) (live : Option Session) (x : OpenSession) → option_map open_of live ≡ Some x → IsPushed n x → n + 1 < 2 ^ 52 → HasRoom live
room_by n None x k p small = absurd (cc)
room_by n (Some session) x k p small =
    let c : session.count ≡ x.count = ap (λ (o : Option OpenSession). (unwrap_or o x).count) k in
    let e : session.sent ≡ x.sent = ap (λ (o : Option OpenSession). (unwrap_or o x).sent) k in
    let count = p.count in
    let sent = p.sent in
    (omega arith, omega arith)

row_at : (rows : List Row) (n : ℕ) → 1 ≤ n → n ≤ length rows → (row : Row) × (slice_get rows (n - 1) ≡ Some row)
row_at rows n h k =
    elim (slice_get_cases rows (n - 1)).1 [
      | inl here ↦ (here.0, here.2)
      | inr past ↦ absurd (omega (arith, past.0))
    ]

module _ (m : ℕ) (sum : Sum) (e : Entry) (mid : Index) (a : Agrees mid (carried e sum)) (k : Keeps sum) (small : sum.number + 1 < 2 ^ 52) where
  part_is : (c : ClientId) → part_at mid c ≡ part_in sum c
  part_is c = sym (part_agrees mid (carried e sum) a c) ∙ part_carried e sum k c

  here : (s : SessionId) → is_live (part_in sum s.client).live (stamp_of s) ≡ true → Here sum mid s
  here s o =
      let found = some_live (find client_cmp s.client (carried e sum).sessions) (stamp_of s) (ap (λ (p : Part). is_live p.live (stamp_of s)) (part_carried e sum k s.client) ∙ o) in
      let live : (part_in sum s.client).live ≡ Some (live_of found.0) = ap (λ (p : Part). p.live) (sym (part_carried e sum k s.client)) ∙ ap (option_map live_of) found.1 in
      record {
        stands = found.0;
        there = sym (a.sessions s.client) ∙ found.1;
        is_pushed = subst (λ o. IfSome o (IsPushed sum.number)) found.1 (each_pushed e sum k s.client);
        live = live;
        part = ap (λ (p : Part). p.live) (part_is s.client) ∙ live;
      }

  room : (s : SessionId) → is_live (part_in sum s.client).live (stamp_of s) ≡ true → HasRoom (session_at mid s.client)
  room s o = let h = here s o in room_by sum.number (session_at mid s.client) h.stands h.there h.is_pushed small

  next_room : (s : SessionId) (q : ℕ) → IsNextBy (part_in sum s.client).live s q → HasRoom (session_at mid s.client)
  next_room s q h = room s (next_open s q (part_in sum s.client).live h)

  -- the open session may leave what its next message asks for
  leaves : (s : SessionId) (q : ℕ) (f : Entry) → IsNextBy (part_in sum s.client).live s q → length (plan_after f (plan_in (part_in sum s.client).live)) ≤ most_rows → MayLeaveAt (session_at mid s.client) q f
  leaves s q f next few =
      let h = here s (next_open s q (part_in sum s.client).live next) in
      leaves_by (session_at mid s.client) (live_of h.stands) h.part q f
      (next_is s q (live_of h.stands) (subst (λ l. IsNextBy l s q) h.live next))
      h.is_pushed.asked
      (subst (λ l. length (plan_after f (plan_in l)) ≤ most_rows) h.live few)

  listens : (s : SessionId) (path : Path) → length (add_path path (paths_in sum s)) ≤ most_paths → length (paths_of s (with_listener s path mid.listeners)) ≤ most_paths
  listens s path few =
      subst (λ ls. length (paths_of s (with_listener s path ls)) ≤ most_paths) a.listeners
      (subst (λ paths. length paths ≤ most_paths)
      (ap (λ b. cond b (add_path path (paths_in sum s)) (paths_in sum s)) (sym (session_itself s)) ∙ sym (with_step s path s sum.listeners k.listeners))
      few)

  pub takes_by : MayEnter sum m e → MayTake mid e
  takes_by = by e where
    by : (f : Entry) → MayEnter sum m f → MayTake mid f
    by (entry.Open s) f =
        may_open mid s (ap (λ (p : Part). p.live) (part_is s.client) ∙ f.1) (ap (λ (p : Part). comes_after p.last (stamp_of s)) (part_is s.client) ∙ f.0)
    by (entry.Op s q n op outcome) f = (next_room s q f.0, f.1 ∙ ap (λ table. length (rows_of s.client table) + 1) a.rows)
    by (entry.Again s q n) f =
        let r = row_at (rows_of s.client sum.rows) n f.1 f.2 in
        let there : slice_get (rows_of s.client mid.retry) (n - 1) ≡ Some r.0 = ap (λ table. slice_get (rows_of s.client table) (n - 1)) (sym a.rows) ∙ r.1 in
        (next_room s q f.0, r.0, is_again n (rows_of s.client mid.retry) r.0 f.1 (subst (λ table. n ≤ length (rows_of s.client table)) a.rows f.2) there, there)
    by (entry.Left s q puts) f = (next_room s q f.0, leaves s q (entry.Left s q puts) f.0 f.1)
    by (entry.Cancelled s q path) f = (next_room s q f.0, leaves s q (entry.Cancelled s q path) f.0 f.1)
    by (entry.Denied s q why) f = next_room s q f
    by (entry.On s q path) f = (next_room s q f.0, listens s path f.1)
    by (entry.Off s q path) f = next_room s q f
    by (entry.Ended s q why rows) f =
        let h = here s f.0 in
        (room s f.0, due_by (session_at mid s.client) (live_of h.stands) h.part rows sum.tree m (f.2 ∙ ap (λ l. due sum.tree m (plan_in l)) h.live))

  -- the stamp of a session that ends
  pub knows_last : MayEnter sum m e → KnowsLast mid e
  knows_last = by e where
    by : (f : Entry) → MayEnter sum m f → KnowsLast mid f
    by (entry.Open s) f = tt
    by (entry.Op s q n op outcome) f = tt
    by (entry.Again s q n) f = tt
    by (entry.Left s q puts) f = tt
    by (entry.Cancelled s q path) f = tt
    by (entry.Denied s q why) f = tt
    by (entry.On s q path) f = tt
    by (entry.Off s q path) f = tt
    by (entry.Ended s q why rows) f = ap (λ (p : Part). p.last) (part_is s.client) ∙ last_is sum s f.0

-- ---- several entries

-- the first of them may be carried out and taken in
pub first_carries : (sum : Sum) (z m : ℕ) (xs : List Entry) (e : Entry) (more : List Entry) (index : Index) → xs ≡ e ∷ more → MayTakeFrom sum z m xs index → MayCarry index e
first_carries sum z m xs e more index k f =
    let each = subst (MayEnterAll sum m) k f.in_turn in
    let room = f.room in
    let n = ap length k in
    let small : sum.number + 1 < 2 ^ 52 = omega arith in
    record {
      writes = may_push e index sum f.agrees f.keeps small;
      entry = λ mid carries. takes_by m sum e mid (agrees_carried e index mid sum f.agrees carries) f.keeps small each.0;
    }

-- the others, once it is taken in
pub rest_from : (sum : Sum) (z m : ℕ) (xs : List Entry) (e : Entry) (more : List Entry) (old mid new : Index) → xs ≡ e ∷ more → MayTakeFrom sum z m xs old → Carries (writes_of e) old mid → Steps z m mid new e → MayTakeFrom (sum_after e sum) (z + 1) m more new
rest_from sum z m xs e more old mid new k f carries st =
    let each = subst (MayEnterAll sum m) k f.in_turn in
    let room = f.room in
    let n = ap length k in
    let small : sum.number + 1 < 2 ^ 52 = omega arith in
    let a = agrees_carried e old mid sum f.agrees carries in
    record {
      agrees = agrees_entered z m e mid new (carried e sum) f.next a (knows_last m sum e mid a f.keeps small each.0) st;
      keeps = kept_after sum m e f.keeps each.0;
      next = ap (λ x. x + 1) f.next;
      in_turn = each.1;
      room = omega arith;
    }

-- what taking the first of them in adds to the answers
pub first_adds : (sum : Sum) (xs : List Entry) (e : Entry) (more : List Entry) (old new : Index) (made : LogPosition) (before after : List Down) → xs ≡ e ∷ more → MayTakeFrom sum made.number made.moment xs old
    → TakesEntry made e old new before after → after ≡ before ++ answers_to_by sum e
first_adds sum xs e more old new made before after k f taken =
    taken.answers ∙ ap (λ l. before ++ l) (sym (answers_agree made.number e old taken.between sum f.next f.agrees taken.carried))

-- ---- the sum of an index

pub agrees_in : (batches moment number : ℕ) (index : Index) → Agrees index (sum_in batches moment number index)
agrees_in batches moment number index = record {
  sessions = λ c. find_behind (λ _ session. open_of session) c index.places.live.entries;
  gone = gone_found index;
  rows = refl;
  listeners = refl;
  tree = refl;
}

-- an index that is in order has one sum
pub sum_is : (batches moment : ℕ) (index : Index) (sum : Sum) → Agrees index sum → Keeps sum → IsOrdered client_cmp index.places.live → IsOrdered client_cmp index.places.gone
    → sum_in batches moment sum.number index ≡ record sum { batches = batches; moment = moment }
sum_is batches moment index sum a k live gone = λ i. record {
  batches = batches;
  moment = moment;
  number = sum.number;
  tree = sym a.tree i;
  rows = sym a.rows i;
  gone = gone_same i;
  sessions = sessions_same i;
  listeners = sym a.listeners i;
} where
  sessions_same : sessions_in index ≡ sum.sessions
  sessions_same =
      same_entries client_cmp clients_total clients_apart (sessions_in index) sum.sessions (behind_sorted (λ _ session. open_of session) index.places.live.entries live) (in_order sum.sessions k.sessions)
      (λ c. find_behind (λ _ session. open_of session) c index.places.live.entries ∙ sym (a.sessions c))

  gone_same : gone_in index ≡ sum.gone
  gone_same =
      same_entries client_cmp clients_total clients_apart (gone_in index) sum.gone (is_sorted-where_key client_cmp (is_gone index) index.places.gone.entries (in_order index.places.gone.entries gone)) (in_order sum.gone k.gone)
      (λ c. gone_found index c ∙ sym (a.gone c))
