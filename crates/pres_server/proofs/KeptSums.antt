-- What holds of every server's sum holds after each batch that may follow.
use Rattle.std.proofs.Common.{refl, sym, ◌∙◌, ap, subst, ◌≡◌, ℕ, ◌+◌, ◌-◌, ◌≤◌, List, [], ◌∷◌, fold, length, filter, Bool, true, false, cond, ◌==◌, true≢false, arith, IsTrue, Option, Some, None, unwrap_or, IfSome}
use Rattle.std.specs.Option.{option_map}
use Rattle.std.specs.Map.{keys_of}
use Rattle.std.specs.List.Sorted.{IsStrictlySortedBy}
use Rattle.std.specs.FinMap.Entries.{find}
use Rattle.std.proofs.lemmas.Bool.{and_parts, and_from, eqb-true, eq-eqb}
use Rattle.pres_tree.specs.Paths.{Path}
use Rattle.pres_write.specs.declared.basic.Basic.{Basic}
use Rattle.pres_ids.specs.declared.id.Stamp.{Stamp}
use Rattle.pres_ids.specs.declared.id.SessionId.{SessionId}
use Rattle.pres_ids.specs.declared.id.Why.{Why}
use Rattle.pres_ids.specs.declared.id.Why.TheVariants as why
use Rattle.pres_ids.specs.Ids.{ClientId, client_cmp, same_client, same_session, stamp_of}
use Rattle.pres_fan.specs.declared.listeners.Listener.{Listener}
use Rattle.pres_fan.specs.Listeners.{IsListeners, most_paths, listener_cmp, listener_of, paths_of, add_path, with_listener, touched}
use Rattle.pres_fan.proofs.Orders.{listener_total}
use Rattle.pres_fan.proofs.Places.{with_step, without_step, without_session_step, filtered_listeners}
use Rattle.pres_log.specs.declared.entry.Batch.{Batch}
use Rattle.pres_log.specs.declared.entry.Entry.{Entry}
use Rattle.pres_log.specs.declared.entry.Entry.TheVariants as entry
use Rattle.pres_log.specs.Logs.{writes_of}
use Rattle.pres_server.specs.Sessions.{session_of}
use Rattle.pres_server.specs.Batches.{Supersedes}
use Rattle.pres_server.specs.InternalParts.{LivePart, Part, comes_after, same_stamp, is_live, open_step, open_steps}
use Rattle.pres_server.specs.InternalIndex.{listeners_after}
use Rattle.pres_server.specs.InternalPushes.{TouchedSession}
use Rattle.pres_server.specs.InternalFollows.{IsNextIn, IsNextBy, IsNewerBy, MayComeBy, MayComeTogetherBy}
use Rattle.pres_server.proofs.Clients.{client_same, client_itself, session_same}
use Rattle.pres_server.proofs.Sorted.{sorted_put}
use Rattle.pres_server.proofs.PlanSteps.{number_in, asked_by}
use Rattle.pres_server.specs.InternalSums.{MayEnter, MayEnterAll}
use Rattle.pres_server.specs.Sums.{Sum, OpenSession, OpenSessions, live_of, part_by, part_in, paths_in, is_open_in, changed, sent_more, pushed, carried, began, answered, sessions_after, gone_after, sum_after, sum_after_all, sum_with}
use Rattle.pres_server.specs.SumTurns.{FollowsSum}
use Rattle.pres_server.specs.Histories.{IsOpenSession, Keeps, IsSum}
use Rattle.pres_server.proofs.Keyed.{sorted_with, sorted_others, sorted_changed, find_put, find_others, find_changed, length_put, length_others, length_changed}
use Rattle.pres_server.proofs.Touching.{IsPushed, part_carried, each_pushed}
use Rattle.pres_server.proofs.KeptAnswers.{IsOfOpen, none_live, answered_in_order, answers_after, known_after, apart_after}

-- ---- one entry

pub entered_by : (sum : Sum) (m : ℕ) (e : Entry) → MayComeBy (part_in sum (session_of e).client) (paths_in sum (session_of e)) (length sum.sessions) sum.tree m e → MayEnter sum m e
entered_by sum m (entry.Open s) f = (f.0, f.1)
entered_by sum m (entry.Op s q n op outcome) f = f
entered_by sum m (entry.Again s q n) f = f
entered_by sum m (entry.Left s q puts) f = f
entered_by sum m (entry.Cancelled s q path) f = f
entered_by sum m (entry.Denied s q why) f = f
entered_by sum m (entry.On s q path) f = f
entered_by sum m (entry.Off s q path) f = f
entered_by sum m (entry.Ended s q why rows) f = f

some_same : {A : Type 0} (a b : A) → Some a ≡ Some b → a ≡ b
some_same a b k = ap (λ o. unwrap_or o a) k

-- q is the next message of this open session
pub next_is : (s : SessionId) (q : ℕ) (l : LivePart) → IsNextBy (Some l) s q → q ≡ l.count + 1
next_is s q l h = by (same_stamp (stamp_of s) l.stamp) h where
  by : (b : Bool) → IsNextIn (cond b (Some l.count) None) q → q ≡ l.count + 1
  by true k = k
  by false k = absurd k

-- a session whose next message is q is open
pub next_open : (s : SessionId) (q : ℕ) (l : Option LivePart) → IsNextBy l s q → is_live l (stamp_of s) ≡ true
next_open s q None h = absurd h
next_open s q (Some l) h = by (same_stamp (stamp_of s) l.stamp) h where
  by : (b : Bool) → IsNextIn (cond b (Some l.count) None) q → b ≡ true
  by true k = refl
  by false k = absurd k

-- an action's number is that of the next message, also once the writes of its entry are carried out
next_number : (sum : Sum) (m : ℕ) (e : Entry) → Keeps sum → MayEnter sum m e → (o : OpenSession) → find client_cmp (session_of e).client (carried e sum).sessions ≡ Some o → (q : ℕ) → number_in e ≡ Some q → q ≡ o.count + 1
next_number sum m (entry.Left s n puts) k f o here q same =
    some_same q n (sym same)
    ∙ next_is s n (live_of o) (subst (λ x. IsNextBy (option_map live_of x) s n) here (subst (λ (p : Part). IsNextBy p.live s n) (sym (part_carried (entry.Left s n puts) sum k s.client)) f.0))
next_number sum m (entry.Cancelled s n path) k f o here q same =
    some_same q n (sym same)
    ∙ next_is s n (live_of o) (subst (λ x. IsNextBy (option_map live_of x) s n) here (subst (λ (p : Part). IsNextBy p.live s n) (sym (part_carried (entry.Cancelled s n path) sum k s.client)) f.0))
next_number sum m (entry.Open s) k f o here q same = absurd (cc)
next_number sum m (entry.Op s n i op outcome) k f o here q same = absurd (cc)
next_number sum m (entry.Again s n i) k f o here q same = absurd (cc)
next_number sum m (entry.Denied s n why) k f o here q same = absurd (cc)
next_number sum m (entry.On s n path) k f o here q same = absurd (cc)
next_number sum m (entry.Off s n path) k f o here q same = absurd (cc)
next_number sum m (entry.Ended s n why rows) k f o here q same = absurd (cc)

-- ---- the open sessions after it

later : (n : ℕ) (o : Option OpenSession) → IfSome o (IsPushed n) → IfSome o (IsOpenSession (n + 1))
later n None h = tt
later n (Some o) h =
    let count = h.count in
    let sent = h.sent in
    record { count = omega arith; sent = omega arith; asked = h.asked }

begins : (n : ℕ) (stamp : Stamp) → IsOpenSession n (began stamp)
begins n stamp = record { count = omega arith; sent = omega arith; asked = λ i x small. absurd (omega arith) }

answers : (n : ℕ) (e : Entry) (o : Option OpenSession) → ((x : OpenSession) → o ≡ Some x → (q : ℕ) → number_in e ≡ Some q → q ≡ x.count + 1) → IfSome o (IsPushed n) → IfSome (option_map (answered e) o) (IsOpenSession (n + 1))
answers n e None next h = tt
answers n e (Some o) next h =
    let count = h.count in
    let sent = h.sent in
    record { count = omega arith; sent = omega arith; asked = asked_by (o.count + 1) e o.plan (next o refl) h.asked }

own_after : (sum : Sum) (m : ℕ) (e : Entry) → Keeps sum → MayEnter sum m e → (c : ClientId) → IfSome (find client_cmp c (changed (session_of e).client (answered e) (carried e sum).sessions)) (IsOpenSession (sum.number + 1))
own_after sum m e k f c = subst (λ o. IfSome o (IsOpenSession (sum.number + 1))) (sym (find_changed own (answered e) mid c)) (by (same_client own c) refl) where
  own : ClientId
  own = (session_of e).client

  mid : OpenSessions
  mid = (carried e sum).sessions

  by : (b : Bool) → same_client own c ≡ b → IfSome (cond b (option_map (answered e) (find client_cmp c mid)) (find client_cmp c mid)) (IsOpenSession (sum.number + 1))
  by true h =
      subst (λ x. IfSome (option_map (answered e) (find client_cmp x mid)) (IsOpenSession (sum.number + 1))) (client_same own c h)
      (answers sum.number e (find client_cmp own mid) (next_number sum m e k f) (each_pushed e sum k own))
  by false h = later sum.number (find client_cmp c mid) (each_pushed e sum k c)

each_after : (sum : Sum) (m : ℕ) (e : Entry) → Keeps sum → MayEnter sum m e → (c : ClientId) → IfSome (find client_cmp c (sum_after e sum).sessions) (IsOpenSession (sum.number + 1))
each_after sum m (entry.Open s) k f c =
    subst (λ o. IfSome o (IsOpenSession (sum.number + 1))) (sym (find_put s.client (began (stamp_of s)) (carried (entry.Open s) sum).sessions c)) (by (same_client s.client c)) where
      by : (b : Bool) → IfSome (cond b (Some (began (stamp_of s))) (find client_cmp c (carried (entry.Open s) sum).sessions)) (IsOpenSession (sum.number + 1))
      by true = begins (sum.number + 1) (stamp_of s)
      by false = later sum.number (find client_cmp c (carried (entry.Open s) sum).sessions) (each_pushed (entry.Open s) sum k c)
each_after sum m (entry.Op s q n op outcome) k f c = own_after sum m (entry.Op s q n op outcome) k f c
each_after sum m (entry.Again s q n) k f c = own_after sum m (entry.Again s q n) k f c
each_after sum m (entry.Left s q puts) k f c = own_after sum m (entry.Left s q puts) k f c
each_after sum m (entry.Cancelled s q path) k f c = own_after sum m (entry.Cancelled s q path) k f c
each_after sum m (entry.Denied s q why) k f c = own_after sum m (entry.Denied s q why) k f c
each_after sum m (entry.On s q path) k f c = own_after sum m (entry.On s q path) k f c
each_after sum m (entry.Off s q path) k f c = own_after sum m (entry.Off s q path) k f c
each_after sum m (entry.Ended s q why rows) k f c =
    subst (λ o. IfSome o (IsOpenSession (sum.number + 1))) (sym (find_others s.client (carried (entry.Ended s q why rows) sum).sessions c)) (by (same_client s.client c)) where
      by : (b : Bool) → IfSome (cond b None (find client_cmp c (carried (entry.Ended s q why rows) sum).sessions)) (IsOpenSession (sum.number + 1))
      by true = tt
      by false = later sum.number (find client_cmp c (carried (entry.Ended s q why rows) sum).sessions) (each_pushed (entry.Ended s q why rows) sum k c)

-- ---- orders

pushed_in_order : (ts : List TouchedSession) (es : OpenSessions) → IsStrictlySortedBy client_cmp (keys_of es) → IsStrictlySortedBy client_cmp (keys_of (fold pushed es ts))
pushed_in_order [] es h = h
pushed_in_order (t ∷ ts) es h = pushed_in_order ts (pushed es t) (sorted_changed t.0.client sent_more es h)

pub carried_in_order : (e : Entry) (sum : Sum) → IsStrictlySortedBy client_cmp (keys_of sum.sessions) → IsStrictlySortedBy client_cmp (keys_of (carried e sum).sessions)
carried_in_order e sum h = pushed_in_order (touched (writes_of e) sum.listeners) sum.sessions h

sessions_in_order : (e : Entry) (es : OpenSessions) → IsStrictlySortedBy client_cmp (keys_of es) → IsStrictlySortedBy client_cmp (keys_of (sessions_after e es))
sessions_in_order (entry.Open s) es h = sorted_with s.client (began (stamp_of s)) es h
sessions_in_order (entry.Op s q n op outcome) es h = sorted_changed s.client (answered (entry.Op s q n op outcome)) es h
sessions_in_order (entry.Again s q n) es h = sorted_changed s.client (answered (entry.Again s q n)) es h
sessions_in_order (entry.Left s q puts) es h = sorted_changed s.client (answered (entry.Left s q puts)) es h
sessions_in_order (entry.Cancelled s q path) es h = sorted_changed s.client (answered (entry.Cancelled s q path)) es h
sessions_in_order (entry.Denied s q why) es h = sorted_changed s.client (answered (entry.Denied s q why)) es h
sessions_in_order (entry.On s q path) es h = sorted_changed s.client (answered (entry.On s q path)) es h
sessions_in_order (entry.Off s q path) es h = sorted_changed s.client (answered (entry.Off s q path)) es h
sessions_in_order (entry.Ended s q why rows) es h = sorted_others s.client es h

gone_in_order : (e : Entry) (gone : List (ClientId × Stamp)) → IsStrictlySortedBy client_cmp (keys_of gone) → IsStrictlySortedBy client_cmp (keys_of (gone_after e gone))
gone_in_order (entry.Open s) gone h = sorted_others s.client gone h
gone_in_order (entry.Op s q n op outcome) gone h = h
gone_in_order (entry.Again s q n) gone h = h
gone_in_order (entry.Left s q puts) gone h = h
gone_in_order (entry.Cancelled s q path) gone h = h
gone_in_order (entry.Denied s q why) gone h = h
gone_in_order (entry.On s q path) gone h = h
gone_in_order (entry.Off s q path) gone h = h
gone_in_order (entry.Ended s q why rows) gone h = sorted_with s.client (stamp_of s) gone h

-- ---- who listens

with_few : (s : SessionId) (path : Path) (listeners : List Listener) → IsListeners listeners → length (add_path path (paths_of s listeners)) ≤ most_paths → IsListeners (with_listener s path listeners)
with_few s path listeners held few = record {
  ordered = sorted_put listener_cmp listener_total (listener_of s path) listeners held.ordered;
  few = λ t. subst (λ paths. length paths ≤ most_paths) (sym (with_step s path t listeners held)) (by t (same_session t s) refl);
} where
  by : (t : SessionId) (b : Bool) → same_session t s ≡ b → length (cond b (add_path path (paths_of t listeners)) (paths_of t listeners)) ≤ most_paths
  by t true h = subst (λ x. length (add_path path (paths_of x listeners)) ≤ most_paths) (sym (session_same t s h)) few
  by t false h = held.few t

held_after : (sum : Sum) (m : ℕ) (e : Entry) → Keeps sum → MayEnter sum m e → IsListeners (listeners_after e sum.listeners)
held_after sum m (entry.Open s) k f = k.listeners
held_after sum m (entry.Op s q n op outcome) k f = k.listeners
held_after sum m (entry.Again s q n) k f = k.listeners
held_after sum m (entry.Left s q puts) k f = k.listeners
held_after sum m (entry.Cancelled s q path) k f = k.listeners
held_after sum m (entry.Denied s q why) k f = k.listeners
held_after sum m (entry.On s q path) k f = with_few s path sum.listeners k.listeners f.1
held_after sum m (entry.Off s q path) k f = filtered_listeners _ sum.listeners k.listeners
held_after sum m (entry.Ended s q why rows) k f = filtered_listeners _ sum.listeners k.listeners

-- the same sessions are open after an answer
still_open : (e : Entry) (b : Bool) (o : Option OpenSession) (t : Stamp) → is_live (option_map live_of (cond b (option_map (answered e) o) o)) t ≡ is_live (option_map live_of o) t
still_open e true None t = refl
still_open e true (Some o) t = refl
still_open e false o t = refl

open_carried : (e : Entry) (sum : Sum) → Keeps sum → (s : SessionId) → is_live (option_map live_of (find client_cmp s.client (carried e sum).sessions)) (stamp_of s) ≡ is_open_in s sum
open_carried e sum k s = ap (λ (p : Part). is_live p.live (stamp_of s)) (part_carried e sum k s.client)

own_still : (e : Entry) (sum : Sum) → Keeps sum → (s : SessionId) → is_live (option_map live_of (find client_cmp s.client (changed (session_of e).client (answered e) (carried e sum).sessions))) (stamp_of s) ≡ is_open_in s sum
own_still e sum k s =
    ap (λ o. is_live (option_map live_of o) (stamp_of s)) (find_changed (session_of e).client (answered e) (carried e sum).sessions s.client)
    ∙ still_open e (same_client (session_of e).client s.client) (find client_cmp s.client (carried e sum).sessions) (stamp_of s)
    ∙ open_carried e sum k s

-- two sessions of a client with one stamp are the same
stamps_same : (s t : SessionId) (x : Stamp) → same_client s.client t.client ≡ true → same_stamp (stamp_of s) x ≡ true → same_stamp (stamp_of t) x ≡ true → same_session s t ≡ true
stamps_same s t x c a b =
    let p = and_parts (s.incarnation == x.incarnation) _ a in
    let q = and_parts (t.incarnation == x.incarnation) _ b in
    let i : s.incarnation ≡ t.incarnation = eqb-true s.incarnation x.incarnation p.0 ∙ sym (eqb-true t.incarnation x.incarnation q.0) in
    let j : s.attempt ≡ t.attempt = eqb-true s.attempt x.attempt p.1 ∙ sym (eqb-true t.attempt x.attempt q.1) in
    and_from _ _ (and_from _ _ c (eq-eqb s.incarnation t.incarnation i)) (eq-eqb s.attempt t.attempt j)

-- of a client one session is open
one_live : (s t : SessionId) (l : Option LivePart) → same_client s.client t.client ≡ true → is_live l (stamp_of s) ≡ true → is_live l (stamp_of t) ≡ true → same_session s t ≡ true
one_live s t None c a b = absurd (true≢false (sym a))
one_live s t (Some l) c a b = stamps_same s t l.stamp c a b

opened_listen : (sum : Sum) (m : ℕ) (t : SessionId) → Keeps sum → MayEnter sum m (entry.Open t) → (s : SessionId) → is_open_in s (sum_after (entry.Open t) sum) ≡ false → paths_in sum s ≡ []
opened_listen sum m t k f s closed = by (same_client t.client s.client) refl where
  mid : OpenSessions
  mid = (carried (entry.Open t) sum).sessions

  now : is_live (option_map live_of (cond (same_client t.client s.client) (Some (began (stamp_of t))) (find client_cmp s.client mid))) (stamp_of s) ≡ false
  now = ap (λ o. is_live (option_map live_of o) (stamp_of s)) (sym (find_put t.client (began (stamp_of t)) mid s.client)) ∙ closed

  by : (b : Bool) → same_client t.client s.client ≡ b → paths_in sum s ≡ []
  by true h = k.listening s (ap (λ c. is_live (part_in sum c).live (stamp_of s)) (sym (client_same t.client s.client h)) ∙ ap (λ l. is_live l (stamp_of s)) f.1)
  by false h =
      k.listening s
      (sym (open_carried (entry.Open t) sum k s)
      ∙ ap (λ b. is_live (option_map live_of (cond b (Some (began (stamp_of t))) (find client_cmp s.client mid))) (stamp_of s)) (sym h)
      ∙ now)

ended_listen : (sum : Sum) (m : ℕ) (t : SessionId) (q : Option ℕ) (w : Why) (rows : List Basic) → Keeps sum → MayEnter sum m (entry.Ended t q w rows) → (s : SessionId) → is_open_in s (sum_after (entry.Ended t q w rows) sum) ≡ false
    → cond (same_session s t) [] (paths_in sum s) ≡ []
ended_listen sum m t q w rows k f s closed = by (same_session s t) refl where
  e : Entry
  e = entry.Ended t q w rows

  mid : OpenSessions
  mid = (carried e sum).sessions

  now : is_live (option_map live_of (cond (same_client t.client s.client) None (find client_cmp s.client mid))) (stamp_of s) ≡ false
  now = ap (λ o. is_live (option_map live_of o) (stamp_of s)) (sym (find_others t.client mid s.client)) ∙ closed

  was : same_session s t ≡ false → (b : Bool) → same_client t.client s.client ≡ b → (o : Bool) → is_open_in s sum ≡ o → o ≡ false
  was d b h false g = refl
  was d true h true g =
      let c : t.client ≡ s.client = client_same t.client s.client h in
      absurd (true≢false (sym (one_live s t (part_in sum s.client).live (ap (same_client s.client) c ∙ client_itself s.client) g (ap (λ x. is_live (part_in sum x).live (stamp_of t)) (sym c) ∙ f.0)) ∙ d))
  was d false h true g =
      sym g
      ∙ sym (open_carried e sum k s)
      ∙ ap (λ x. is_live (option_map live_of (cond x None (find client_cmp s.client mid))) (stamp_of s)) (sym h)
      ∙ now

  by : (b : Bool) → same_session s t ≡ b → cond b [] (paths_in sum s) ≡ []
  by true h = refl
  by false h = k.listening s (was h (same_client t.client s.client) refl (is_open_in s sum) refl)

nothing_more : (b : Bool) (f : List Path → List Path) (paths : List Path) → paths ≡ [] → f [] ≡ [] → cond b (f paths) paths ≡ []
nothing_more true f paths h g = ap f h ∙ g
nothing_more false f paths h g = h

on_listen : (sum : Sum) (m : ℕ) (t : SessionId) (q : ℕ) (path : Path) → Keeps sum → MayEnter sum m (entry.On t q path) → (s : SessionId) → is_open_in s sum ≡ false → cond (same_session s t) (add_path path (paths_in sum s)) (paths_in sum s) ≡ []
on_listen sum m t q path k f s closed = by (same_session s t) refl where
  by : (b : Bool) → same_session s t ≡ b → cond b (add_path path (paths_in sum s)) (paths_in sum s) ≡ []
  by true h = absurd (true≢false (sym (next_open t q (part_in sum t.client).live f.0) ∙ ap (λ x. is_open_in x sum) (sym (session_same s t h)) ∙ closed))
  by false h = k.listening s closed

listening_after : (sum : Sum) (m : ℕ) (e : Entry) → Keeps sum → MayEnter sum m e → (s : SessionId) → is_open_in s (sum_after e sum) ≡ false → paths_in (sum_after e sum) s ≡ []
listening_after sum m (entry.Open t) k f s closed = opened_listen sum m t k f s closed
listening_after sum m (entry.Op t q n op outcome) k f s closed = k.listening s (sym (own_still (entry.Op t q n op outcome) sum k s) ∙ closed)
listening_after sum m (entry.Again t q n) k f s closed = k.listening s (sym (own_still (entry.Again t q n) sum k s) ∙ closed)
listening_after sum m (entry.Left t q puts) k f s closed = k.listening s (sym (own_still (entry.Left t q puts) sum k s) ∙ closed)
listening_after sum m (entry.Cancelled t q path) k f s closed = k.listening s (sym (own_still (entry.Cancelled t q path) sum k s) ∙ closed)
listening_after sum m (entry.Denied t q w) k f s closed = k.listening s (sym (own_still (entry.Denied t q w) sum k s) ∙ closed)
listening_after sum m (entry.On t q path) k f s closed = with_step t path s sum.listeners k.listeners ∙ on_listen sum m t q path k f s (sym (own_still (entry.On t q path) sum k s) ∙ closed)
listening_after sum m (entry.Off t q path) k f s closed =
    without_step t path s sum.listeners
    ∙ nothing_more (same_session s t) (filter _) (paths_in sum s) (k.listening s (sym (own_still (entry.Off t q path) sum k s) ∙ closed)) refl
listening_after sum m (entry.Ended t q w rows) k f s closed = without_session_step t s sum.listeners ∙ ended_listen sum m t q w rows k f s closed

-- ---- what is kept

-- an answer is to a session that is open
of_open : (sum : Sum) (m : ℕ) (e : Entry) → MayEnter sum m e → IsOfOpen sum e
of_open sum m (entry.Open s) f = tt
of_open sum m (entry.Op s q n op outcome) f = next_open s q (part_in sum s.client).live f.0
of_open sum m (entry.Again s q n) f = tt
of_open sum m (entry.Left s q puts) f = tt
of_open sum m (entry.Cancelled s q path) f = tt
of_open sum m (entry.Denied s q w) f = tt
of_open sum m (entry.On s q path) f = tt
of_open sum m (entry.Off s q path) f = tt
of_open sum m (entry.Ended s q w rows) f = tt

pub kept_after : (sum : Sum) (m : ℕ) (e : Entry) → Keeps sum → MayEnter sum m e → Keeps (sum_after e sum)
kept_after sum m e k f = record {
  sessions = sessions_in_order e (carried e sum).sessions (carried_in_order e sum k.sessions);
  gone = gone_in_order e sum.gone k.gone;
  answered = answered_in_order (sum.number + 1) e sum.rows k.answered;
  each = each_after sum m e k f;
  answers = answers_after sum e k;
  known = known_after sum e k (of_open sum m e f);
  apart = apart_after sum e k;
  listeners = held_after sum m e k f;
  listening = listening_after sum m e k f;
}

-- how many sessions are open after it
pushed_counted : (ts : List TouchedSession) (es : OpenSessions) → length (fold pushed es ts) ≡ length es
pushed_counted [] es = refl
pushed_counted (t ∷ ts) es = pushed_counted ts (pushed es t) ∙ length_changed t.0.client sent_more es

carried_counted : (e : Entry) (sum : Sum) → length (carried e sum).sessions ≡ length sum.sessions
carried_counted e sum = pushed_counted (touched (writes_of e) sum.listeners) sum.sessions

own_counted : (e : Entry) (sum : Sum) → length (changed (session_of e).client (answered e) (carried e sum).sessions) ≡ length sum.sessions
own_counted e sum = length_changed (session_of e).client (answered e) (carried e sum).sessions ∙ carried_counted e sum

pub some_live : (o : Option OpenSession) (t : Stamp) → is_live (option_map live_of o) t ≡ true → (x : OpenSession) × (o ≡ Some x) × (same_stamp t x.stamp ≡ true)
some_live None t h = absurd (true≢false (sym h))
some_live (Some x) t h = (x, refl, h)

counted_after : (sum : Sum) (m : ℕ) (e : Entry) → Keeps sum → MayEnter sum m e → length (sum_after e sum).sessions ≡ open_step e (length sum.sessions)
counted_after sum m (entry.Open s) k f =
    length_put s.client (began (stamp_of s)) (carried (entry.Open s) sum).sessions (carried_in_order (entry.Open s) sum k.sessions)
    (none_live (find client_cmp s.client (carried (entry.Open s) sum).sessions) (ap (λ (p : Part). p.live) (part_carried (entry.Open s) sum k s.client) ∙ f.1))
    ∙ ap (λ n. n + 1) (carried_counted (entry.Open s) sum)
counted_after sum m (entry.Op s q n op outcome) k f = own_counted (entry.Op s q n op outcome) sum
counted_after sum m (entry.Again s q n) k f = own_counted (entry.Again s q n) sum
counted_after sum m (entry.Left s q puts) k f = own_counted (entry.Left s q puts) sum
counted_after sum m (entry.Cancelled s q path) k f = own_counted (entry.Cancelled s q path) sum
counted_after sum m (entry.Denied s q w) k f = own_counted (entry.Denied s q w) sum
counted_after sum m (entry.On s q path) k f = own_counted (entry.On s q path) sum
counted_after sum m (entry.Off s q path) k f = own_counted (entry.Off s q path) sum
counted_after sum m (entry.Ended s q w rows) k f =
    let e = entry.Ended s q w rows in
    let here = some_live (find client_cmp s.client (carried e sum).sessions) (stamp_of s) (open_carried e sum k s ∙ f.0) in
    length_others s.client here.0 (carried e sum).sessions (carried_in_order e sum k.sessions) here.1
    ∙ ap (λ n. n - 1) (carried_counted e sum)

-- ---- a batch

-- what follows its entries
pub record After (xs : List Entry) (sum : Sum) : Type 0 where
  pub keeps : Keeps (sum_after_all xs sum)
  pub number : (sum_after_all xs sum).number ≡ sum.number + length xs
  pub counted : length (sum_after_all xs sum).sessions ≡ open_steps xs (length sum.sessions)

pub after_all : (xs : List Entry) (sum : Sum) (m : ℕ) → Keeps sum → MayEnterAll sum m xs → After xs sum
after_all [] sum m k f = let none : sum.number ≡ sum.number + 0 = omega arith in record { keeps = k; number = none; counted = refl }
after_all (e ∷ more) sum m k f =
    let rest = after_all more (sum_after e sum) m (kept_after sum m e k f.0) f.1 in
    let n = rest.number in
    record { keeps = rest.keeps; number = omega arith; counted = rest.counted ∙ ap (open_steps more) (counted_after sum m e k f.0) }

-- the end of a session, and the next one of its client
pub record Pair (e f : Entry) : Type 0 where
  pub ended : SessionId
  pub q : Option ℕ
  pub rows : List Basic
  pub opened : SessionId
  pub first : e ≡ entry.Ended ended q why.Superseded rows
  pub second : f ≡ entry.Open opened
  pub client : ended.client ≡ opened.client

pub pair_of : (e f : Entry) → Supersedes e f → Pair e f
pair_of (entry.Ended s q w rows) (entry.Open t) h = record { ended = s; q = q; rows = rows; opened = t; first = ap (λ x. entry.Ended s q x rows) h.0; second = refl; client = h.1 }
pair_of (entry.Ended s q w rows) (entry.Op t r n op outcome) h = absurd h
pair_of (entry.Ended s q w rows) (entry.Again t r n) h = absurd h
pair_of (entry.Ended s q w rows) (entry.Left t r puts) h = absurd h
pair_of (entry.Ended s q w rows) (entry.Cancelled t r path) h = absurd h
pair_of (entry.Ended s q w rows) (entry.Denied t r v) h = absurd h
pair_of (entry.Ended s q w rows) (entry.On t r path) h = absurd h
pair_of (entry.Ended s q w rows) (entry.Off t r path) h = absurd h
pair_of (entry.Ended s q w rows) (entry.Ended t r v more) h = absurd h
pair_of (entry.Open s) f h = absurd h
pair_of (entry.Op s q n op outcome) f h = absurd h
pair_of (entry.Again s q n) f h = absurd h
pair_of (entry.Left s q puts) f h = absurd h
pair_of (entry.Cancelled s q path) f h = absurd h
pair_of (entry.Denied s q w) f h = absurd h
pair_of (entry.On s q path) f h = absurd h
pair_of (entry.Off s q path) f h = absurd h

-- what the sum says of a client whose session ended
part_ended : (sum : Sum) (s : SessionId) (q : Option ℕ) (w : Why) (rows : List Basic)
    → part_in (sum_after (entry.Ended s q w rows) sum) s.client ≡ part_by None (Some (stamp_of s)) (sum_after (entry.Ended s q w rows) sum).rows s.client
part_ended sum s q w rows =
    let e = entry.Ended s q w rows in
    let live : find client_cmp s.client (sum_after e sum).sessions ≡ None =
    find_others s.client (carried e sum).sessions s.client ∙ ap (λ b. cond b None (find client_cmp s.client (carried e sum).sessions)) (client_itself s.client) in
    let last : find client_cmp s.client (sum_after e sum).gone ≡ Some (stamp_of s) =
    find_put s.client (stamp_of s) sum.gone s.client ∙ ap (λ b. cond b (Some (stamp_of s)) (find client_cmp s.client sum.gone)) (client_itself s.client) in
    λ i. part_by (live i) (last i) (sum_after e sum).rows s.client

stamp_is : (s t : Stamp) → same_stamp s t ≡ true → s ≡ t
stamp_is s t h =
    let p = and_parts (s.incarnation == t.incarnation) _ h in
    λ i. record { incarnation = eqb-true s.incarnation t.incarnation p.0 i; attempt = eqb-true s.attempt t.attempt p.1 i }

-- the stamp of an open session is its client's last
pub last_is : (sum : Sum) (s : SessionId) → is_open_in s sum ≡ true → (part_in sum s.client).last ≡ Some (stamp_of s)
last_is sum s h =
    let here = some_live (find client_cmp s.client sum.sessions) (stamp_of s) h in
    ap (λ o. (part_by o (find client_cmp s.client sum.gone) sum.rows s.client).last) here.1 ∙ ap Some (sym (stamp_is (stamp_of s) here.0.stamp here.2))

-- a newer session may be opened once that of its client has ended
newer_enters : (sum : Sum) (m : ℕ) (s t : SessionId) (q : Option ℕ) (w : Why) (rows : List Basic) → is_open_in s sum ≡ true → s.client ≡ t.client → IsTrue (comes_after (part_in sum t.client).last (stamp_of t)) → MayEnter (sum_after (entry.Ended s q w rows) sum) m (entry.Open t)
newer_enters sum m s t q w rows o c new =
    let after = sum_after (entry.Ended s q w rows) sum in
    subst (λ k. IsTrue (comes_after (part_in after k).last (stamp_of t)) × ((part_in after k).live ≡ None)) c (
      ap (λ (p : Part). comes_after p.last (stamp_of t)) (part_ended sum s q w rows)
          ∙ ap (λ l. comes_after l (stamp_of t)) (sym (last_is sum s o))
          ∙ ap (λ k. comes_after (part_in sum k).last (stamp_of t)) c
          ∙ new,
      ap (λ (p : Part). p.live) (part_ended sum s q w rows),
    )

pub enters : (sum : Sum) (m : ℕ) (xs : List Entry) → MayComeTogetherBy (part_in sum) (paths_in sum) (length sum.sessions) sum.tree m xs → MayEnterAll sum m xs
enters sum m [] h = absurd h
enters sum m (e ∷ []) h = (entered_by sum m e h.1, tt)
enters sum m (e ∷ f ∷ []) h = by (pair_of e f h.0) h.1 h.2 where
  by : Pair e f → IsNewerBy (part_in sum) (length sum.sessions) f → MayComeBy (part_in sum (session_of e).client) (paths_in sum (session_of e)) (length sum.sessions) sum.tree m e → MayEnterAll sum m (e ∷ f ∷ [])
  by p newer may =
      let ended : MayComeBy (part_in sum p.ended.client) (paths_in sum p.ended) (length sum.sessions) sum.tree m (entry.Ended p.ended p.q why.Superseded p.rows) =
      subst (λ x. MayComeBy (part_in sum (session_of x).client) (paths_in sum (session_of x)) (length sum.sessions) sum.tree m x) p.first may in
      let opened : IsNewerBy (part_in sum) (length sum.sessions) (entry.Open p.opened) = subst (IsNewerBy (part_in sum) (length sum.sessions)) p.second newer in (
        entered_by sum m e may,
        subst (λ (x : Entry × Entry). MayEnter (sum_after x.0 sum) m x.1 × Unit {0}) (λ i. (sym p.first i, sym p.second i)) (newer_enters sum m p.ended p.opened p.q why.Superseded p.rows ended.0 p.client opened.0, tt),
      )
enters sum m (e ∷ f ∷ g ∷ more) h = absurd h

-- no more sessions are open after it than may be
few_after : (sum : Sum) (m : ℕ) (xs : List Entry) → length sum.sessions ≤ 1024 → MayComeTogetherBy (part_in sum) (paths_in sum) (length sum.sessions) sum.tree m xs → open_steps xs (length sum.sessions) ≤ 1024
few_after sum m [] few h = absurd h
few_after sum m (e ∷ []) few h = by e h.1 where
  by : (x : Entry) → MayComeBy (part_in sum (session_of x).client) (paths_in sum (session_of x)) (length sum.sessions) sum.tree m x → open_step x (length sum.sessions) ≤ 1024
  by (entry.Open s) k = k.2
  by (entry.Op s q n op outcome) k = few
  by (entry.Again s q n) k = few
  by (entry.Left s q puts) k = few
  by (entry.Cancelled s q path) k = few
  by (entry.Denied s q w) k = few
  by (entry.On s q path) k = few
  by (entry.Off s q path) k = few
  by (entry.Ended s q w rows) k = omega arith
few_after sum m (e ∷ f ∷ []) few h = by (pair_of e f h.0) where
  again : (n : ℕ) → n ≤ 1024 → n - 1 + 1 ≤ 1024
  again n k = omega arith

  by : Pair e f → open_steps (e ∷ f ∷ []) (length sum.sessions) ≤ 1024
  by p = subst (λ (x : Entry × Entry). open_steps (x.0 ∷ x.1 ∷ []) (length sum.sessions) ≤ 1024) (λ i. (sym p.first i, sym p.second i)) (again (length sum.sessions) few)
few_after sum m (e ∷ f ∷ g ∷ more) few h = absurd h

some_entries : (sum : Sum) (m : ℕ) (xs : List Entry) → MayComeTogetherBy (part_in sum) (paths_in sum) (length sum.sessions) sum.tree m xs → 1 ≤ length xs
some_entries sum m [] h = absurd h
some_entries sum m (e ∷ xs) h = omega arith

pub sum_holds : (sum : Sum) (b : Batch) → IsSum sum → FollowsSum sum b → IsSum (sum_with sum b)
sum_holds sum b k f =
    let after = after_all b.entries sum b.moment k.keeps (enters sum b.moment b.entries f.allowed) in
    let number = after.number in
    let counted = after.counted in
    let few = few_after sum b.moment b.entries k.few f.allowed in
    let some = some_entries sum b.moment b.entries f.allowed in
    let room = f.room in
    let batches = k.batches in
    record {
      keeps = record {
        sessions = after.keeps.sessions;
        gone = after.keeps.gone;
        answered = after.keeps.answered;
        each = after.keeps.each;
        answers = after.keeps.answers;
        known = after.keeps.known;
        apart = after.keeps.apart;
        listeners = after.keeps.listeners;
        listening = after.keeps.listening;
      };
      few = omega arith;
      batches = omega arith;
      room = omega arith;
      moment = f.in_range;
    }
