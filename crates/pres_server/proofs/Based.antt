-- The parts that a server copies are those of a base with its sum.
use Rattle.std.proofs.Common.{refl, sym, ◌∙◌, ap, subst, ◌≡◌, ℕ, ◌+◌, ◌-◌, ◌^◌, ◌≤◌, List, [], ◌∷◌, ◌++◌, append-nil, map, filter, length, Bool, true, false, true≢false, cond, ◌==◌, ◌&&◌, ◌||◌, arith, not, IsTrue, Option, Some, None, is_some, unwrap_or, IsSome, IfSome, Less, is_eq}
use Rattle.std.specs.Prelude.{nat_lt}
use Rattle.std.specs.List.{All, AllByRecursion, list_any}
use Rattle.std.specs.List.Sorted.{IsStrictlySortedBy}
use Rattle.std.specs.Map.{keys_of}
use Rattle.std.specs.Option.{option_map}
use Rattle.std.specs.FinMap.Entries.{find, is_sorted-where_key, same_entries}
use Rattle.std.proofs.lemmas.List.{length-map}
use Rattle.std.proofs.lemmas.List.Elements.{All-nil, All-cons, All-head, All-tail}
use Rattle.std.proofs.lemmas.Bool.{lt-ltb}
use Rattle.std.proofs.lemmas.Map.Keys.{sorted_head, sorted_tail}
use Rattle.pres_tree.specs.Paths.{same_path}
use Rattle.pres_ids.specs.declared.id.SessionId.{SessionId}
use Rattle.pres_ids.specs.declared.id.Stamp.{Stamp}
use Rattle.pres_ids.specs.Ids.{ClientId, client_cmp, same_session, stamp_of}
use Rattle.pres_retry.specs.declared.table.Row.{Row}
use Rattle.pres_retry.specs.Tables.{Table, rows_of}
use Rattle.pres_retry.specs.Above.{rows_above, AreRising}
use Rattle.pres_plan.specs.Plans.{IsPlan}
use Rattle.pres_fan.specs.declared.listeners.Listener.{Listener}
use Rattle.pres_fan.specs.Listeners.{same_listener, listener_of, paths_of}
use Rattle.pres_fan.proofs.Members.{same_members}
use Rattle.pres_fan.proofs.Places.{paths_rise}
use Rattle.pres_base.specs.declared.parts.ClientPart.{ClientPart}
use Rattle.pres_base.specs.declared.parts.SessionPart.{SessionPart}
use Rattle.pres_base.specs.declared.parts.BaseParts.{BaseParts}
use Rattle.pres_base.specs.Bases.{are_done, last_in, IsOpenPart, IsBase}
use Rattle.pres_base.specs.AnswersApart.{answers_for}
use Rattle.pres_base.proofs.AnswersApart.{rising}
use Rattle.pres_server.specs.InternalParts.{same_stamp, session_with, is_live}
use Rattle.pres_server.specs.Sums.{Sum, OpenSession, OpenSessions, last_by, live_of, part_in, is_open_in}
use Rattle.pres_server.specs.Histories.{IsOpenSession, AreAnswers, IsSum}
use Rattle.pres_server.specs.BaseSums.{open_for, is_gone_for, gone_for, listeners_for, sum_for}
use Rattle.pres_server.specs.InternalBases.{client_part, client_part_above, session_part, parts_of, AreLasts, lasts_in}
use Rattle.pres_server.proofs.Clients.{client_same, client_itself, client_sym, clients_total, clients_apart, same_by_cmp, session_same}
use Rattle.pres_server.proofs.Keyed.{in_order}
use Rattle.pres_server.proofs.BaseSums as bases
use Rattle.pres_server.proofs.Resumed.{none_after}

-- ---- keys

client_ids : (table : Table) (es : List (ClientId × Stamp)) → map (λ (c : ClientPart). c.id) (map (client_part table) es) ≡ keys_of es
client_ids table [] = refl
client_ids table (e ∷ es) = ap (λ l. e.0 ∷ l) (client_ids table es)

session_ids : (ls : List Listener) (es : OpenSessions) → map (λ (s : SessionPart). s.session.client) (map (session_part ls) es) ≡ keys_of es
session_ids ls [] = refl
session_ids ls (e ∷ es) = ap (λ l. e.0 ∷ l) (session_ids ls es)

lasts_same : (table : Table) (es : List (ClientId × Stamp)) → lasts_in (map (client_part table) es) ≡ es
lasts_same table [] = refl
lasts_same table (e ∷ es) = ap (λ l. e ∷ l) (lasts_same table es)

sessions_same : (ls : List Listener) (es : OpenSessions) → map (λ (s : SessionPart). (s.session.client, open_for s)) (map (session_part ls) es) ≡ es
sessions_same ls [] = refl
sessions_same ls (e ∷ es) = ap (λ l. e ∷ l) (sessions_same ls es)

-- clients with the answers alone that were made after a number
pub clients_above : (n : ℕ) (table : Table) (es : List (ClientId × Stamp)) → map (client_part_above n table) es ≡ map (λ (c : ClientPart). record { id = c.id; last = c.last; rows = rows_above n c.rows }) (map (client_part table) es)
clients_above n table [] = refl
clients_above n table (e ∷ es) = ap (λ l. client_part_above n table e ∷ l) (clients_above n table es)

-- each entry is found by its own client
module _ (e : ClientId × OpenSession) (es : OpenSessions) where
  still_found : (fs : OpenSessions) → AllByRecursion (λ k. client_cmp e.0 k ≡ Less) (keys_of fs) → AllByRecursion (λ f. find client_cmp f.0 es ≡ Some f.1) fs → AllByRecursion (λ f. find client_cmp f.0 (e ∷ es) ≡ Some f.1) fs
  still_found [] h g = tt
  still_found (f ∷ fs) h g = (ap (λ b. cond b (Some e.1) (find client_cmp f.0 es)) (same_by_cmp f.0 e.0 ∙ client_sym f.0 e.0 ∙ sym (same_by_cmp e.0 f.0) ∙ ap is_eq h.0) ∙ g.0, still_found fs h.1 g.1)

each_found : (es : OpenSessions) → IsStrictlySortedBy client_cmp (keys_of es) → AllByRecursion (λ e. find client_cmp e.0 es ≡ Some e.1) es
each_found [] h = tt
each_found (e ∷ es) h = (
  ap (λ b. cond b (Some e.1) (find client_cmp e.0 es)) (same_by_cmp e.0 e.0 ∙ client_itself e.0),
  still_found e es es (sorted_head client_cmp e.0 (keys_of es) h) (each_found es (sorted_tail client_cmp e.0 (keys_of es) h)),
)

-- ---- what holds of each part

pub done_of : (n : ℕ) (o : Option (List Row)) → IfSome o (AreAnswers n) → are_done 0 n (unwrap_or o []) ≡ true
done_of n None h = refl
done_of n (Some rows) h = h.1

pub answers_rise : (n : ℕ) (o : Option (List Row)) → IfSome o (AreAnswers n) → AreRising 0 (unwrap_or o [])
answers_rise n o h = rising 0 n (unwrap_or o []) (done_of n o h)

each_done : (n : ℕ) (table : Table) → ((c : ClientId) → IfSome (find client_cmp c table) (AreAnswers n)) → (es : List (ClientId × Stamp)) → All (λ (c : ClientPart). IsTrue (are_done 0 n c.rows)) (map (client_part table) es)
each_done n table f [] = All-nil (λ (c : ClientPart). IsTrue (are_done 0 n c.rows))
each_done n table f (e ∷ es) = All-cons (λ (c : ClientPart). IsTrue (are_done 0 n c.rows)) (client_part table e) (map (client_part table) es) (done_of n (find client_cmp e.0 table) (f e.0)) (each_done n table f es)

module _ (sum : Sum) (lasts : List (ClientId × Stamp)) (k : IsSum sum) (l : AreLasts sum lasts) where
  abbrev pub parts : BaseParts
  parts = parts_of sum lasts

  found_last : (c : ClientId) → last_in c parts.clients ≡ (part_in sum c).last
  found_last c = ap (find client_cmp c) (lasts_same sum.rows lasts) ∙ l.found c

  own_last : (e : ClientId × OpenSession) → find client_cmp e.0 sum.sessions ≡ Some e.1 → last_in e.0 parts.clients ≡ Some e.1.stamp
  own_last e h = found_last e.0 ∙ ap (λ o. last_by o (find client_cmp e.0 sum.gone)) h

  each_last : (es : OpenSessions) → AllByRecursion (λ e. find client_cmp e.0 sum.sessions ≡ Some e.1) es
      → All (λ (s : SessionPart). last_in s.session.client parts.clients ≡ Some (stamp_of s.session)) (map (session_part sum.listeners) es)
  each_last [] h = All-nil (λ (s : SessionPart). last_in s.session.client parts.clients ≡ Some (stamp_of s.session))
  each_last (e ∷ es) h = All-cons (λ (s : SessionPart). last_in s.session.client parts.clients ≡ Some (stamp_of s.session)) (session_part sum.listeners e) (map (session_part sum.listeners) es) (own_last e h.0) (each_last es h.1)

  open_part : (e : ClientId × OpenSession) → find client_cmp e.0 sum.sessions ≡ Some e.1 → IsPlan e.1.plan → IsOpenPart sum.number (session_part sum.listeners e)
  open_part e h plan =
      let held = subst (λ o. IfSome o (IsOpenSession sum.number)) h (k.keeps.each e.0) in
      record {
        listens = paths_rise (session_with e.0 e.1.stamp) sum.listeners k.keeps.listeners;
        few_listens = k.keeps.listeners.few (session_with e.0 e.1.stamp);
        plan = plan;
        asked = λ i x small. omega (arith, held.asked i x small);
        q = held.count;
        r = held.sent;
      }

  each_open : (es : OpenSessions) → AllByRecursion (λ e. find client_cmp e.0 sum.sessions ≡ Some e.1) es → All (λ e. IsPlan e.1.plan) es → All (IsOpenPart sum.number) (map (session_part sum.listeners) es)
  each_open [] h g = All-nil (IsOpenPart sum.number)
  each_open (e ∷ es) h g =
      All-cons (IsOpenPart sum.number) (session_part sum.listeners e) (map (session_part sum.listeners) es) (open_part e h.0 (All-head (λ (e : ClientId × OpenSession). IsPlan e.1.plan) e es g))
      (each_open es h.1 (All-tail (λ (e : ClientId × OpenSession). IsPlan e.1.plan) e es g))

  counted : length parts.sessions ≡ length sum.sessions
  counted = length-map sum.sessions (session_part sum.listeners)

  ids_in_order : IsStrictlySortedBy client_cmp (map (λ (c : ClientPart). c.id) parts.clients)
  ids_in_order = subst (IsStrictlySortedBy client_cmp) (sym (client_ids sum.rows lasts)) l.ordered

  pub parts_are_base : All (λ e. IsPlan e.1.plan) sum.sessions → IsBase parts
  parts_are_base plans = record {
    clients = ids_in_order;
    sessions = subst (IsStrictlySortedBy client_cmp) (sym (session_ids sum.listeners sum.sessions)) k.keeps.sessions;
    answers = each_done sum.number sum.rows k.keeps.answers lasts;
    last = each_last sum.sessions (each_found sum.sessions k.keeps.sessions);
    each = each_open sum.sessions (each_found sum.sessions k.keeps.sessions) plans;
    few = subst (λ n. n ≤ 1024) (sym counted) k.few;
    batches = k.batches;
    room = subst (λ n. sum.number + n ≤ 2 ^ 52 - 1) (sym counted) k.room;
    moment = k.moment;
  }

  -- ---- its sum: who is gone

  gone_found : (c : ClientId) → find client_cmp c (gone_for parts) ≡ find client_cmp c sum.gone
  gone_found c =
      bases.gone_at parts c
      ∙ (λ i. cond (not (is_some (find client_cmp c (sessions_same sum.listeners sum.sessions i)))) (found_last c i) None)
      ∙ by (find client_cmp c sum.sessions) (find client_cmp c sum.gone) (k.keeps.apart c)
    where
      by : (o : Option OpenSession) (last : Option Stamp) → (IsSome last → o ≡ None) → cond (not (is_some o)) (last_by o last) None ≡ last
      by None last h = refl
      by (Some session) None h = refl
      by (Some session) (Some last) h = absurd (true≢false (ap is_some (h refl)))

  gone_same : gone_for parts ≡ sum.gone
  gone_same =
      same_entries client_cmp clients_total clients_apart (gone_for parts) sum.gone
      (is_sorted-where_key client_cmp (is_gone_for parts) (lasts_in parts.clients) (in_order (lasts_in parts.clients) (subst (λ es. IsStrictlySortedBy client_cmp (keys_of es)) (sym (lasts_same sum.rows lasts)) l.ordered)))
      (in_order sum.gone k.keeps.gone) gone_found

-- ---- kept answers

-- the rows, where there are any
abbrev some_of : List Row → Option (List Row)
some_of rows = cond (nat_lt 0 (length rows)) (Some rows) None

found_answers : (table : Table) (c : ClientId) (es : List (ClientId × Stamp)) → IsStrictlySortedBy client_cmp (keys_of es) → find client_cmp c (answers_for (map (client_part table) es)) ≡ cond (is_some (find client_cmp c es)) (some_of (rows_of c table)) None
found_answers table c [] h = refl
found_answers table c (e ∷ es) h = by (nat_lt 0 (length (rows_of e.0 table))) (is_eq (client_cmp c e.0)) refl refl (found_answers table c es (sorted_tail client_cmp e.0 (keys_of es) h)) where
  later : Table
  later = answers_for (map (client_part table) es)

  rows : List Row
  rows = rows_of e.0 table

  none : is_eq (client_cmp c e.0) ≡ true → find client_cmp c later ≡ None
  none t =
      ap (λ k. find client_cmp k later) (client_same c e.0 (sym (same_by_cmp c e.0) ∙ t))
      ∙ none_after e.0 later
      (bases.rows_above e.0 (map (client_part table) es) (subst (AllByRecursion (λ y. client_cmp e.0 y ≡ Less)) (sym (client_ids table es)) (sorted_head client_cmp e.0 (keys_of es) h)))

  -- the client's own rows, where there are any
  own : (b : Bool) → nat_lt 0 (length rows) ≡ b → is_eq (client_cmp c e.0) ≡ true → cond b (Some rows) None ≡ some_of (rows_of c table)
  own b s t = ap (λ x. cond x (Some rows) None) (sym s) ∙ ap (λ k. some_of (rows_of k table)) (sym (client_same c e.0 (sym (same_by_cmp c e.0) ∙ t)))

  by : (b same : Bool) → nat_lt 0 (length rows) ≡ b → is_eq (client_cmp c e.0) ≡ same → find client_cmp c later ≡ cond (is_some (find client_cmp c es)) (some_of (rows_of c table)) None
      → find client_cmp c (cond b ((e.0, rows) ∷ later) later) ≡ cond (is_some (cond same (Some e.1) (find client_cmp c es))) (some_of (rows_of c table)) None
  by true true s t r = ap (λ x. cond x (Some rows) (find client_cmp c later)) t ∙ own true s t
  by true false s t r = ap (λ x. cond x (Some rows) (find client_cmp c later)) t ∙ r
  by false true s t r = none t ∙ own false s t
  by false false s t r = r

module _ (sum : Sum) (lasts : List (ClientId × Stamp)) (k : IsSum sum) (l : AreLasts sum lasts) where
  rows_found : (c : ClientId) → find client_cmp c (answers_for (map (client_part sum.rows) lasts)) ≡ find client_cmp c sum.rows
  rows_found c = found_answers sum.rows c lasts l.ordered ∙ ap (λ o. cond (is_some o) (some_of (rows_of c sum.rows)) None) (l.found c) ∙ by (find client_cmp c sum.rows) (part_in sum c).last (k.keeps.known c) (k.keeps.answers c) where
    by : (o : Option (List Row)) (last : Option Stamp) → (IsSome o → IsSome last) → IfSome o (AreAnswers sum.number) → cond (is_some last) (some_of (unwrap_or o [])) None ≡ o
    by None None f a = refl
    by None (Some last) f a = refl
    by (Some rows) last f a = ap (λ b. cond b (some_of rows) None) (f refl) ∙ ap (λ b. cond b (Some rows) None) (lt-ltb 0 (length rows) a.0)

  pub rows_same : answers_for (map (client_part sum.rows) lasts) ≡ sum.rows
  rows_same =
      same_entries client_cmp clients_total clients_apart (answers_for (map (client_part sum.rows) lasts)) sum.rows
      (in_order (answers_for (map (client_part sum.rows) lasts)) (bases.rows_order (map (client_part sum.rows) lasts) (subst (IsStrictlySortedBy client_cmp) (sym (client_ids sum.rows lasts)) l.ordered)))
      (in_order sum.rows k.keeps.answered) rows_found

-- ---- who listens

member_path : (l : Listener) (xs : List Listener) → list_any (same_listener l) xs ≡ list_any (same_path l.path) (paths_of l.session xs)
member_path l [] = refl
member_path l (x ∷ xs) = by (same_session l.session x.session) (member_path l xs) where
  own : List Listener
  own = filter (λ (m : Listener). same_session l.session m.session) xs

  by : (b : Bool) → list_any (same_listener l) xs ≡ list_any (same_path l.path) (paths_of l.session xs)
      → ((b && same_path l.path x.path) || list_any (same_listener l) xs) ≡ list_any (same_path l.path) (map (λ (m : Listener). m.path) (cond b (x ∷ own) own))
  by true r = ap (λ y. same_path l.path x.path || y) r
  by false r = r

-- what a session listens to by the parts: what it listens to, where it is open
paths_back : (ls : List Listener) (t : SessionId) (es : OpenSessions) → IsStrictlySortedBy client_cmp (keys_of es)
    → paths_of t (listeners_for (map (session_part ls) es)) ≡ cond (is_live (option_map live_of (find client_cmp t.client es)) (stamp_of t)) (paths_of t ls) []
paths_back ls t [] h = refl
paths_back ls t (e ∷ es) h = by (is_eq (client_cmp t.client e.0)) refl (paths_back ls t es (sorted_tail client_cmp e.0 (keys_of es) h)) where
  s : SessionId
  s = session_with e.0 e.1.stamp

  later : List Listener
  later = listeners_for (map (session_part ls) es)

  none : is_eq (client_cmp t.client e.0) ≡ true → paths_of t later ≡ []
  none c =
      bases.none_listen t (map (session_part ls) es)
      (bases.later_apart e.0 t (map (session_part ls) es) (bases.client_in t s c) (subst (AllByRecursion (λ y. client_cmp e.0 y ≡ Less)) (sym (session_ids ls es)) (sorted_head client_cmp e.0 (keys_of es) h)))

  -- the session of the client, or another one of it
  own : (b : Bool) → same_stamp (stamp_of t) e.1.stamp ≡ b → is_eq (client_cmp t.client e.0) ≡ true → paths_of t (map (listener_of s) (paths_of s ls) ++ later) ≡ cond b (paths_of t ls) []
  own true q c =
      let same : same_session t s ≡ true = ap (λ b. b && t.incarnation == e.1.stamp.incarnation && t.attempt == e.1.stamp.attempt) (sym (same_by_cmp t.client e.0) ∙ c) ∙ q in
      bases.own_block t s (paths_of s ls) later same
      ∙ ap (λ ps. paths_of s ls ++ ps) (none c)
      ∙ append-nil (paths_of s ls)
      ∙ ap (λ x. paths_of x ls) (sym (session_same t s same))
  own false q c =
      let same : same_session t s ≡ false = ap (λ b. b && t.incarnation == e.1.stamp.incarnation && t.attempt == e.1.stamp.attempt) (sym (same_by_cmp t.client e.0) ∙ c) ∙ q in
      bases.other_block t s (paths_of s ls) later same ∙ none c

  by : (b : Bool) → is_eq (client_cmp t.client e.0) ≡ b → paths_of t later ≡ cond (is_live (option_map live_of (find client_cmp t.client es)) (stamp_of t)) (paths_of t ls) []
      → paths_of t (map (listener_of s) (paths_of s ls) ++ later) ≡ cond (is_live (option_map live_of (cond b (Some e.1) (find client_cmp t.client es))) (stamp_of t)) (paths_of t ls) []
  by true c r = own (same_stamp (stamp_of t) e.1.stamp) refl c
  by false c r = bases.other_block t s (paths_of s ls) later (bases.other_client t s c) ∙ r

module _ (sum : Sum) (lasts : List (ClientId × Stamp)) (k : IsSum sum) (l : AreLasts sum lasts) (plans : All (λ e. IsPlan e.1.plan) sum.sessions) where
  paths_found : (t : SessionId) → paths_of t (listeners_for (parts_of sum lasts).sessions) ≡ paths_of t sum.listeners
  paths_found t = paths_back sum.listeners t sum.sessions k.keeps.sessions ∙ by (is_open_in t sum) refl where
    by : (b : Bool) → is_open_in t sum ≡ b → cond b (paths_of t sum.listeners) [] ≡ paths_of t sum.listeners
    by true o = refl
    by false o = sym (k.keeps.listening t o)

  has_same : (m : Listener) → list_any (same_listener m) (listeners_for (parts_of sum lasts).sessions) ≡ list_any (same_listener m) sum.listeners
  has_same m =
      member_path m (listeners_for (parts_of sum lasts).sessions)
      ∙ ap (list_any (same_path m.path)) (paths_found m.session)
      ∙ sym (member_path m sum.listeners)

  listeners_same : listeners_for (parts_of sum lasts).sessions ≡ sum.listeners
  listeners_same =
      let base = parts_are_base sum lasts k l plans in
      same_members (listeners_for (parts_of sum lasts).sessions) sum.listeners (bases.flat_order sum.number (parts_of sum lasts).sessions base.sessions base.each) k.keeps.listeners.ordered
      (λ m h. sym (has_same m) ∙ h) (λ m h. has_same m ∙ h)

  pub sum_is_back : sum_for (parts_of sum lasts) ≡ sum
  sum_is_back = λ i. record {
    batches = sum.batches;
    moment = sum.moment;
    number = sum.number;
    tree = sum.tree;
    rows = rows_same sum lasts k l i;
    gone = gone_same sum lasts k l i;
    sessions = sessions_same sum.listeners sum.sessions i;
    listeners = listeners_same i;
  }
