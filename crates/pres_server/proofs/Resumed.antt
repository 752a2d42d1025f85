-- An index that is made from a base, part by part.
use Rattle.std.proofs.Common.{refl, sym, ◌∙◌, ap, subst, ◌≡◌, ℕ, suc, ◌+◌, ◌<◌, ◌≤◌, List, [], ◌∷◌, ◌++◌, append-nil, append_assoc, map, filter, length, Bool, true, false, cond, not, arith, Option, Some, None, is_some, unwrap_or, Less, Greater, is_eq}
use Rattle.std.specs.Prelude.{nat_lt}
use Rattle.std.specs.List.{All, AllByRecursion}
use Rattle.std.specs.List.Sorted.{IsStrictlySortedBy}
use Rattle.std.specs.Map.{keys_of}
use Rattle.std.specs.Option.{option_map, option_or}
use Rattle.std.specs.Ordering.{match_ordering, ordering_reverse}
use Rattle.std.specs.BTreeSet.{insert_key}
use Rattle.std.specs.BTreeMap.{BTreeMap, get, IsOrdered, Updates}
use Rattle.std.specs.FinMap.Entries.{by_order, find, put}
use Rattle.std.proofs.lemmas.Bool.{lt-ltb}
use Rattle.std.proofs.lemmas.List.Elements.{All-nil, All-cons, All-head, All-tail}
use Rattle.std.proofs.lemmas.Map.Keys.{sorted_head, sorted_tail}
use Rattle.pres_tree.specs.Paths.{Path}
use Rattle.pres_ids.specs.declared.id.SessionId.{SessionId}
use Rattle.pres_ids.specs.declared.id.Stamp.{Stamp}
use Rattle.pres_ids.specs.Ids.{ClientId, client_cmp, same_client, same_session}
use Rattle.pres_retry.specs.declared.table.Row.{Row}
use Rattle.pres_retry.specs.Tables.{Table, rows_of}
use Rattle.pres_fan.specs.declared.listeners.Listener.{Listener}
use Rattle.pres_fan.specs.Listeners.{IsListeners, most_paths, listener_cmp, listener_of, paths_of, with_listener}
use Rattle.pres_fan.proofs.Orders.{listener_total}
use Rattle.pres_base.specs.declared.parts.ClientPart.{ClientPart}
use Rattle.pres_base.specs.declared.parts.SessionPart.{SessionPart}
use Rattle.pres_base.specs.declared.parts.BaseParts.{BaseParts}
use Rattle.pres_base.specs.Bases.{IsOpenPart, IsBase}
use Rattle.pres_base.specs.AnswersApart.{answers_for}
use Rattle.pres_server.specs.declared.index.Index.{Index}
use Rattle.pres_server.specs.InternalSessions.{Session, last_stamp}
use Rattle.pres_server.specs.InternalIndex.{session_at, gone_at}
use Rattle.pres_server.specs.InternalSums.{open_of, sum_in, Agrees}
use Rattle.pres_server.specs.BaseSums.{open_for, sessions_for, listeners_for, sum_for}
use Rattle.pres_server.specs.InternalBases.{lasts_in, with_answers, reopened, live_in}
use Rattle.pres_server.proofs.Clients.{client_same, client_sym, clients_total, same_by_cmp}
use Rattle.pres_server.proofs.Heard.{find_behind, keys_behind}
use Rattle.pres_server.proofs.Keyed.{at_client, found}
use Rattle.pres_server.proofs.SumSteps.{sum_is}
use Rattle.pres_server.proofs.BaseSums as bases

-- ---- a map into which entries are put, one after another

-- what it has of a client then: the last entry of the client, or what it had
abbrev pub told : {X : Type 0} → List (ClientId × X) → ClientId → Option X → Option X
told [] c before = before
told (e ∷ es) c before = told es c (cond (same_client e.0 c) (Some e.1) before)

pub none_after : {X : Type 0} (k : ClientId) (es : List (ClientId × X)) → AllByRecursion (λ y. client_cmp k y ≡ Less) (keys_of es) → find client_cmp k es ≡ None
none_after k [] h = refl
none_after k (e ∷ es) h = ap (λ o. cond (is_eq o) (Some e.1) (find client_cmp k es)) h.0 ∙ none_after k es h.1

pub told_found : {X : Type 0} (es : List (ClientId × X)) (c : ClientId) (before : Option X) → IsStrictlySortedBy client_cmp (keys_of es) → told es c before ≡ option_or (find client_cmp c es) before
told_found {X} [] c before h = refl
told_found {X} (e ∷ es) c before h = told_found es c (cond (same_client e.0 c) (Some e.1) before) (sorted_tail client_cmp e.0 (keys_of es) h) ∙ by (same_client e.0 c) refl where
  same : is_eq (client_cmp c e.0) ≡ same_client e.0 c
  same = same_by_cmp c e.0 ∙ client_sym c e.0

  by : (b : Bool) → same_client e.0 c ≡ b → option_or (find client_cmp c es) (cond b (Some e.1) before) ≡ option_or (cond (is_eq (client_cmp c e.0)) (Some e.1) (find client_cmp c es)) before
  by true t =
      let none : find client_cmp c es ≡ None = ap (λ x. find client_cmp x es) (sym (client_same e.0 c t)) ∙ none_after e.0 es (sorted_head client_cmp e.0 (keys_of es) h) in
      ap (λ (o : Option X). option_or o (Some e.1)) none ∙ sym (ap (λ b. option_or (cond b (Some e.1) (find client_cmp c es)) before) (same ∙ t))
  by false t = sym (ap (λ b. option_or (cond b (Some e.1) (find client_cmp c es)) before) (same ∙ t))

or_none : {X : Type 0} (o : Option X) → option_or o None ≡ o
or_none None = refl
or_none (Some x) = refl

-- where none was there before
pub told_all : {X : Type 0} (es : List (ClientId × X)) (c : ClientId) → IsStrictlySortedBy client_cmp (keys_of es) → told es c None ≡ find client_cmp c es
told_all es c h = told_found es c None h ∙ or_none (find client_cmp c es)

-- one more entry that is put in
pub told_next : {X : Type 0} (old new : BTreeMap ClientId X) (k : ClientId) (v : X) (rest : List (ClientId × X)) → Updates client_cmp old new k (Some v) → (c : ClientId) → told rest c (get client_cmp new c) ≡ told ((k, v) ∷ rest) c (get client_cmp old c)
told_next old new k v rest u c = ap (told rest c) (u.0 c ∙ ap (λ b. cond b (Some v) (get client_cmp old c)) (same_by_cmp k c))

-- one entry more of those that are left
pub told_step : {X : Type 0} (old new : BTreeMap ClientId X) (k : ClientId) (v : X) (es : List (ClientId × X)) (e : ClientId × X) (rest : List (ClientId × X)) → Updates client_cmp old new k (Some v) → es ≡ e ∷ rest → k ≡ e.0 → v ≡ e.1 → (c : ClientId)
    → told rest c (get client_cmp new c) ≡ told es c (get client_cmp old c)
told_step old new k v es e rest u left key value c = told_next old new k v rest u c ∙ (λ i. told ((key i, value i) ∷ rest) c (get client_cmp old c)) ∙ ap (λ l. told l c (get client_cmp old c)) (sym left)

-- the last stamps: those of the open sessions count, where there are any
pub lasts_told : (live : List (ClientId × Session)) (gone : List (ClientId × Stamp)) → IsStrictlySortedBy client_cmp (keys_of live) → IsStrictlySortedBy client_cmp (keys_of gone) → (c : ClientId)
    → told (map (λ e. (e.0, e.1.stamp)) live) c (told gone c None) ≡ last_stamp (at_client c live) (at_client c gone)
lasts_told live gone order past c =
    told_found (map (λ e. (e.0, e.1.stamp)) live) c (told gone c None) (subst (IsStrictlySortedBy client_cmp) (sym (keys_behind (λ _ (session : Session). session.stamp) live)) order)
    ∙ (λ i. option_or (find_behind (λ _ (session : Session). session.stamp) c live i) ((told_all gone c past ∙ found c gone) i))
    ∙ by (at_client c live) (at_client c gone)
  where
    by : (o : Option Session) (last : Option Stamp) → option_or (option_map (λ (session : Session). session.stamp) o) last ≡ last_stamp o last
    by None last = refl
    by (Some session) last = refl

-- ---- items in the order of their clients

module _ {A : Type 0} (key : A → ClientId) where
  pub one_of : (P : ClientId → Type 0) (front : List A) (x : A) (later : List A) → AllByRecursion P (map key (front ++ x ∷ later)) → P (key x)
  one_of P [] x later h = h.0
  one_of P (y ∷ front) x later h = one_of P front x later h.1

  front_all : (P : ClientId → Type 0) (front later : List A) → AllByRecursion P (map key (front ++ later)) → AllByRecursion P (map key front)
  front_all P [] later h = tt
  front_all P (y ∷ front) later h = (h.0, front_all P front later h.1)

  pub front_sorted : (front later : List A) → IsStrictlySortedBy client_cmp (map key (front ++ later)) → IsStrictlySortedBy client_cmp (map key front)
  unfolding IsStrictlySortedBy
  front_sorted [] later h = tt
  front_sorted (y ∷ front) later h = (front_all (λ k. client_cmp (key y) k ≡ Less) front later h.0, front_sorted front later h.1)

-- the other way round
greater : (a b : ClientId) → client_cmp a b ≡ Less → client_cmp b a ≡ Greater
greater a b h = clients_total.antisymm b a ∙ ap ordering_reverse h

-- ---- kept answers

-- the first client is another one than a later one
ahead : (p : ClientPart) (front : List ClientPart) (x : ClientPart) (later : List ClientPart) → IsStrictlySortedBy client_cmp (map (λ c. c.id) ((p ∷ front) ++ x ∷ later)) → client_cmp x.id p.id ≡ Greater
ahead p front x later h = greater p.id x.id (one_of (λ c. c.id) (λ k. client_cmp p.id k ≡ Less) front x later (sorted_head client_cmp p.id (map (λ c. c.id) (front ++ x ∷ later)) h))

pub stranger : (front : List ClientPart) (x : ClientPart) (later : List ClientPart) → IsStrictlySortedBy client_cmp (map (λ c. c.id) (front ++ x ∷ later)) → find client_cmp x.id (answers_for front) ≡ None
stranger [] x later h = refl
stranger (p ∷ front) x later h =
    by (nat_lt 0 (length p.rows)) ∙ stranger front x later (sorted_tail client_cmp p.id (map (λ c. c.id) (front ++ x ∷ later)) h) where
      by : (b : Bool) → find client_cmp x.id (cond b ((p.id, p.rows) ∷ answers_for front) (answers_for front)) ≡ find client_cmp x.id (answers_for front)
      by true = ap (λ o. cond (is_eq o) (Some p.rows) (find client_cmp x.id (answers_for front))) (ahead p front x later h)
      by false = refl

pub answers_next : (front : List ClientPart) (x : ClientPart) (later : List ClientPart) → IsStrictlySortedBy client_cmp (map (λ c. c.id) (front ++ x ∷ later)) → with_answers x.id x.rows (answers_for front) ≡ answers_for (front ++ x ∷ [])
answers_next [] x later h = refl
answers_next (p ∷ front) x later h = by (nat_lt 0 (length p.rows)) (nat_lt 0 (length x.rows)) ∙ all (answers_next front x later (sorted_tail client_cmp p.id (map (λ c. c.id) (front ++ x ∷ later)) h)) where
  e : ClientId × List Row
  e = (p.id, p.rows)

  old : Table
  old = answers_for front

  all : with_answers x.id x.rows old ≡ answers_for (front ++ x ∷ [])
      → cond (nat_lt 0 (length p.rows)) (e ∷ with_answers x.id x.rows old) (with_answers x.id x.rows old) ≡ cond (nat_lt 0 (length p.rows)) (e ∷ answers_for (front ++ x ∷ [])) (answers_for (front ++ x ∷ []))
  all more = λ i. cond (nat_lt 0 (length p.rows)) (e ∷ more i) (more i)

  by : (b some : Bool) → cond some (put client_cmp x.id x.rows (cond b (e ∷ old) old)) (cond b (e ∷ old) old) ≡ cond b (e ∷ cond some (put client_cmp x.id x.rows old) old) (cond some (put client_cmp x.id x.rows old) old)
  by true true = ap (λ o. by_order o ((x.id, x.rows) ∷ e ∷ old) ((p.id, x.rows) ∷ old) (e ∷ put client_cmp x.id x.rows old)) (ahead p front x later h)
  by true false = refl
  by false true = refl
  by false false = refl

pub with_none : (client : ClientId) (answers : List Row) (table : Table) → length answers ≡ 0 → table ≡ with_answers client answers table
with_none client [] table h = refl
with_none client (row ∷ answers) table h = absurd (omega (arith, h))

pub with_some : (client : ClientId) (answers : List Row) (table : Table) → 0 < length answers → put client_cmp client answers table ≡ with_answers client answers table
with_some client answers table h = ap (λ b. cond b (put client_cmp client answers table) table) (sym (lt-ltb 0 (length answers) h))

-- ---- who listens

before_last : (xs : List Listener) (l : Listener) (later : List Listener) → IsStrictlySortedBy listener_cmp (xs ++ l ∷ later) → insert_key listener_cmp xs l ≡ xs ++ l ∷ []
before_last [] l later h = refl
before_last (x ∷ xs) l later h =
    ap (λ o. match_ordering o (l ∷ x ∷ xs) (x ∷ xs) (x ∷ insert_key listener_cmp xs l)) (above xs (sorted_head listener_cmp x (xs ++ l ∷ later) h))
    ∙ ap (λ ls. x ∷ ls) (before_last xs l later (sorted_tail listener_cmp x (xs ++ l ∷ later) h))
  where
    above : (ys : List Listener) → AllByRecursion (λ y. listener_cmp x y ≡ Less) (ys ++ l ∷ later) → listener_cmp l x ≡ Greater
    above [] a = listener_total.antisymm l x ∙ ap ordering_reverse a.0
    above (y ∷ ys) a = above ys a.1

one_more : (m n : ℕ) → m ≤ n → suc m ≤ suc n
one_more m n h = omega (arith, h)

-- a session listens to no fewer places, the more listeners there are
fewer : (s : SessionId) (xs ys : List Listener) → length (paths_of s xs) ≤ length (paths_of s (xs ++ ys))
fewer s [] ys = omega arith
fewer s (x ∷ xs) ys = by (same_session s x.session) (fewer s xs ys) where
  own : List Listener → List Listener
  own ls = filter (λ l. same_session s l.session) ls

  by : (b : Bool) → length (paths_of s xs) ≤ length (paths_of s (xs ++ ys)) → length (map (λ (l : Listener). l.path) (cond b (x ∷ own xs) (own xs))) ≤ length (map (λ (l : Listener). l.path) (cond b (x ∷ own (xs ++ ys)) (own (xs ++ ys))))
  by true h = one_more (length (paths_of s xs)) (length (paths_of s (xs ++ ys))) h
  by false h = h

mapped_more : (s : SessionId) (ps : List Path) (p : Path) (rest : List Path) → map (listener_of s) (ps ++ p ∷ rest) ≡ map (listener_of s) ps ++ listener_of s p ∷ map (listener_of s) rest
mapped_more s [] p rest = refl
mapped_more s (q ∷ ps) p rest = ap (λ l. listener_of s q ∷ l) (mapped_more s ps p rest)

-- the places of a session that it listens to so far, and those that are left
pub record Listens (s : SessionId) (old : List Listener) (places rest : List Path) (now : List Listener) : Type 0 where
  pub front : List Path
  pub parts : front ++ rest ≡ places
  pub there : now ≡ old ++ map (listener_of s) front

pub listens_none : (s : SessionId) (old : List Listener) (places : List Path) → Listens s old places places old
listens_none s old places = record { front = []; parts = refl; there = sym (append-nil old) }

module _ (s : SessionId) (old : List Listener) (places : List Path) (p : Path) (rest : List Path) (now : List Listener) (l : Listens s old places (p ∷ rest) now) (held : IsListeners (old ++ map (listener_of s) places)) where
  -- all of them, in three parts
  whole : old ++ map (listener_of s) places ≡ now ++ listener_of s p ∷ map (listener_of s) rest
  whole =
      ap (λ ps. old ++ map (listener_of s) ps) (sym l.parts)
      ∙ ap (λ ls. old ++ ls) (mapped_more s l.front p rest)
      ∙ sym (append_assoc old (map (listener_of s) l.front) (listener_of s p ∷ map (listener_of s) rest))
      ∙ ap (λ ls. ls ++ listener_of s p ∷ map (listener_of s) rest) (sym l.there)

  pub listens_last : with_listener s p now ≡ now ++ listener_of s p ∷ []
  listens_last = before_last now (listener_of s p) (map (listener_of s) rest) (subst (IsStrictlySortedBy listener_cmp) whole held.ordered)

  pub listens_few : length (paths_of s (with_listener s p now)) ≤ most_paths
  listens_few =
      let few : length (paths_of s ((now ++ listener_of s p ∷ []) ++ map (listener_of s) rest)) ≤ most_paths =
      subst (λ ls. length (paths_of s ls) ≤ most_paths) (whole ∙ sym (append_assoc now (listener_of s p ∷ []) (map (listener_of s) rest))) (held.few s) in
      let part = fewer s (now ++ listener_of s p ∷ []) (map (listener_of s) rest) in
      subst (λ ls. length (paths_of s ls) ≤ most_paths) (sym listens_last) (omega arith)

  pub listens_more : Listens s old places rest (with_listener s p now)
  listens_more = record {
    front = l.front ++ p ∷ [];
    parts = append_assoc l.front (p ∷ []) rest ∙ l.parts;
    there =
        listens_last
        ∙ ap (λ ls. ls ++ listener_of s p ∷ []) l.there
        ∙ append_assoc old (map (listener_of s) l.front) (listener_of s p ∷ [])
        ∙ ap (λ ls. old ++ ls) (sym (mapped_more s l.front p []));
  }

pub listens_all : (s : SessionId) (old : List Listener) (places : List Path) (now : List Listener) → Listens s old places [] now → now ≡ old ++ map (listener_of s) places
listens_all s old places now l = l.there ∙ ap (λ ps. old ++ map (listener_of s) ps) (sym (append-nil l.front) ∙ l.parts)

listeners_more : (front : List SessionPart) (x : SessionPart) → listeners_for (front ++ x ∷ []) ≡ listeners_for front ++ map (listener_of x.session) x.listens
listeners_more [] x = append-nil (map (listener_of x.session) x.listens)
listeners_more (y ∷ front) x =
    ap (λ ls. map (listener_of y.session) y.listens ++ ls) (listeners_more front x)
    ∙ sym (append_assoc (map (listener_of y.session) y.listens) (listeners_for front) (map (listener_of x.session) x.listens))

-- ---- the clients so far, and those that are left

pub record Knows (clients rest : List ClientPart) (table : Table) : Type 0 where
  pub front : List ClientPart
  pub parts : front ++ rest ≡ clients
  pub answers : table ≡ answers_for front

pub knows_none : (clients : List ClientPart) → Knows clients clients []
knows_none clients = record { front = []; parts = refl; answers = refl }

module _ (clients : List ClientPart) (x : ClientPart) (rest : List ClientPart) (table : Table) (k : Knows clients (x ∷ rest) table) (sorted : IsStrictlySortedBy client_cmp (map (λ c. c.id) clients)) where
  in_three : IsStrictlySortedBy client_cmp (map (λ c. c.id) (k.front ++ x ∷ rest))
  in_three = subst (λ cs. IsStrictlySortedBy client_cmp (map (λ c. c.id) cs)) (sym k.parts) sorted

  pub knows_stranger : rows_of x.id table ≡ []
  knows_stranger = ap (rows_of x.id) k.answers ∙ ap (λ (o : Option (List Row)). unwrap_or o []) (stranger k.front x rest in_three)

  pub knows_more : (new : Table) → new ≡ with_answers x.id x.rows table → Knows clients rest new
  knows_more new h = record {
    front = k.front ++ x ∷ [];
    parts = append_assoc k.front (x ∷ []) rest ∙ k.parts;
    answers = h ∙ ap (with_answers x.id x.rows) k.answers ∙ answers_next k.front x rest in_three;
  }

pub knows_all : (clients : List ClientPart) (table : Table) → Knows clients [] table → table ≡ answers_for clients
knows_all clients table k = k.answers ∙ ap answers_for (sym (append-nil k.front) ∙ k.parts)

-- ---- the open sessions so far, and those that are left

pub record Opens (sessions rest : List SessionPart) (listeners : List Listener) : Type 0 where
  pub front : List SessionPart
  pub parts : front ++ rest ≡ sessions
  pub listening : listeners ≡ listeners_for front

pub opens_none : (sessions : List SessionPart) → Opens sessions sessions []
opens_none sessions = record { front = []; parts = refl; listening = refl }

module _ (n : ℕ) (sessions : List SessionPart) (x : SessionPart) (rest : List SessionPart) (listeners : List Listener) (o : Opens sessions (x ∷ rest) listeners) (each : All (IsOpenPart n) sessions)
    (sorted : IsStrictlySortedBy client_cmp (map (λ s. s.session.client) sessions)) where
  in_two : (o.front ++ x ∷ []) ++ rest ≡ sessions
  in_two = append_assoc o.front (x ∷ []) rest ∙ o.parts

  pub opens_part : IsOpenPart n x
  opens_part = part o.front (subst (All (IsOpenPart n)) (sym o.parts) each) where
    part : (front : List SessionPart) → All (IsOpenPart n) (front ++ x ∷ rest) → IsOpenPart n x
    part [] a = All-head (IsOpenPart n) x rest a
    part (y ∷ front) a = part front (All-tail (IsOpenPart n) y (front ++ x ∷ rest) a)

  pub opens_listeners : IsListeners (listeners ++ map (listener_of x.session) x.listens)
  opens_listeners = subst IsListeners (sym (ap (λ ls. ls ++ map (listener_of x.session) x.listens) o.listening ∙ sym (listeners_more o.front x))) (record {
    ordered = bases.flat_order n (o.front ++ x ∷ []) front_in_order front_each;
    few = λ t. bases.few_listen n t (o.front ++ x ∷ []) front_in_order front_each;
  }) where
    front_in_order : IsStrictlySortedBy client_cmp (map (λ s. s.session.client) (o.front ++ x ∷ []))
    front_in_order = front_sorted (λ (s : SessionPart). s.session.client) (o.front ++ x ∷ []) rest (subst (λ ss. IsStrictlySortedBy client_cmp (map (λ s. s.session.client) ss)) (sym in_two) sorted)

    first_ones : (front later : List SessionPart) → All (IsOpenPart n) (front ++ later) → All (IsOpenPart n) front
    first_ones [] later a = All-nil (IsOpenPart n)
    first_ones (y ∷ front) later a = All-cons (IsOpenPart n) y front (All-head (IsOpenPart n) y (front ++ later) a) (first_ones front later (All-tail (IsOpenPart n) y (front ++ later) a))

    front_each : All (IsOpenPart n) (o.front ++ x ∷ [])
    front_each = first_ones (o.front ++ x ∷ []) rest (subst (All (IsOpenPart n)) (sym in_two) each)

  pub opens_more : (new : List Listener) → new ≡ listeners ++ map (listener_of x.session) x.listens → Opens sessions rest new
  opens_more new h = record {
    front = o.front ++ x ∷ [];
    parts = in_two;
    listening = h ∙ ap (λ ls. ls ++ map (listener_of x.session) x.listens) o.listening ∙ sym (listeners_more o.front x);
  }

pub opens_all : (sessions : List SessionPart) (listeners : List Listener) → Opens sessions [] listeners → listeners ≡ listeners_for sessions
opens_all sessions listeners o = o.listening ∙ ap listeners_for (sym (append-nil o.front) ∙ o.parts)

-- ---- the index

pub lasts_keys : (cs : List ClientPart) → keys_of (lasts_in cs) ≡ map (λ c. c.id) cs
lasts_keys [] = refl
lasts_keys (c ∷ cs) = ap (λ l. c.id ∷ l) (lasts_keys cs)

pub live_keys : (m : ℕ) (ss : List SessionPart) → keys_of (live_in m ss) ≡ map (λ s. s.session.client) ss
live_keys m [] = refl
live_keys m (s ∷ ss) = ap (λ l. s.session.client ∷ l) (live_keys m ss)

opened_found : (m : ℕ) (c : ClientId) (ss : List SessionPart) → find client_cmp c (map (λ s. (s.session.client, open_for s)) ss) ≡ option_map open_of (find client_cmp c (live_in m ss))
opened_found m c [] = refl
opened_found m c (s ∷ ss) = by (is_eq (client_cmp c s.session.client)) (opened_found m c ss) where
  by : (b : Bool) → find client_cmp c (map (λ s. (s.session.client, open_for s)) ss) ≡ option_map open_of (find client_cmp c (live_in m ss))
      → cond b (Some (open_for s)) (find client_cmp c (map (λ s. (s.session.client, open_for s)) ss)) ≡ option_map open_of (cond b (Some (reopened m s)) (find client_cmp c (live_in m ss)))
  by true r = refl
  by false r = r

some_open : (o : Option Session) → is_some (option_map open_of o) ≡ is_some o
some_open None = refl
some_open (Some s) = refl

-- an index whose maps and lists are those of the base
pub agrees_base : (p : BaseParts) (index : Index) → ((c : ClientId) → session_at index c ≡ find client_cmp c (live_in p.moment p.sessions)) → ((c : ClientId) → gone_at index c ≡ find client_cmp c (lasts_in p.clients))
    → index.retry ≡ answers_for p.clients → index.listeners ≡ listeners_for p.sessions → index.tree ≡ p.tree → Agrees index (sum_for p)
agrees_base p index live gone retry listeners tree = record {
  sessions = opens;
  gone = λ c. bases.gone_at p c ∙ (λ i. cond (not ((ap is_some (opens c) ∙ some_open (session_at index c)) i)) (sym (gone c) i) None) ∙ by (is_some (session_at index c)) (gone_at index c);
  rows = sym retry;
  listeners = sym listeners;
  tree = sym tree;
} where
  opens : (c : ClientId) → find client_cmp c (sessions_for p) ≡ option_map open_of (session_at index c)
  opens c = opened_found p.moment c p.sessions ∙ ap (option_map open_of) (sym (live c))

  by : (b : Bool) (o : Option Stamp) → cond (not b) o None ≡ cond b None o
  by true o = refl
  by false o = refl

-- and its sum is that of the base
pub sum_of_base : (p : BaseParts) (index : Index) (batches number : ℕ) → batches ≡ p.batches → number ≡ p.number → IsBase p → Agrees index (sum_for p) → IsOrdered client_cmp index.places.live → IsOrdered client_cmp index.places.gone
    → sum_in batches p.moment number index ≡ sum_for p
sum_of_base p index batches number b n base a live gone =
    (λ i. sum_in (b i) p.moment (n i) index)
    ∙ sum_is p.batches p.moment index (sum_for p) a (bases.base_has_sum p base).keeps live gone
