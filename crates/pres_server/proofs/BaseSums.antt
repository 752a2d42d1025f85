-- What holds of every server's sum holds of a base's.
use Rattle.std.proofs.Common.{refl, sym, ◌∙◌, ap, subst, ◌≡◌, ℕ, ◌+◌, ◌-◌, ◌^◌, ◌≤◌, List, [], ◌∷◌, ◌++◌, append-nil, map, filter, length, Bool, true, false, true≢false, cond, ◌==◌, ◌&&◌, arith, not, IsTrue, Option, Some, None, is_some, IsSome, IfSome, Less, is_eq}
use Rattle.std.specs.Prelude.{nat_lt}
use Rattle.std.specs.List.{All, AllByRecursion}
use Rattle.std.specs.List.Sorted.{IsStrictlySortedBy}
use Rattle.std.specs.Map.{keys_of}
use Rattle.std.specs.Option.{option_map}
use Rattle.std.specs.Ordering.{nat_cmp, ordering_then}
use Rattle.std.specs.Cmp.{tied_itself}
use Rattle.std.specs.FinMap.Entries.{find, where_key, find-where_key}
use Rattle.std.proofs.lemmas.List.{length-map}
use Rattle.std.proofs.lemmas.List.Elements.{All-nil, All-cons, All-head, All-tail}
use Rattle.std.proofs.lemmas.Bool.{ltb-true}
use Rattle.std.proofs.lemmas.List.Kept.{IsStrictlySortedBy-filter}
use Rattle.std.proofs.lemmas.Map.Keys.{sorted_head, sorted_tail}
use Rattle.pres_tree.specs.Paths.{Path, path_cmp}
use Rattle.pres_ids.specs.declared.id.SessionId.{SessionId}
use Rattle.pres_ids.specs.Ids.{ClientId, client_cmp, same_client, same_session, stamp_of}
use Rattle.pres_fan.specs.declared.listeners.Listener.{Listener}
use Rattle.pres_fan.specs.Listeners.{most_paths, listener_cmp, listener_of, paths_of}
use Rattle.pres_fan.proofs.Orders.{session_total}
use Rattle.pres_retry.specs.declared.table.Row.{Row}
use Rattle.pres_plan.specs.Plans.{IsPlan}
use Rattle.pres_base.specs.declared.parts.ClientPart.{ClientPart}
use Rattle.pres_base.specs.declared.parts.SessionPart.{SessionPart}
use Rattle.pres_base.specs.declared.parts.BaseParts.{BaseParts}
use Rattle.pres_base.specs.Bases.{are_done, IsOpenPart}
use Rattle.pres_base.specs.AnswersApart.{answers_for}
use Rattle.pres_server.specs.InternalParts.{is_live}
use Rattle.pres_server.specs.Sums.{OpenSession, last_by, live_of, part_in}
use Rattle.pres_server.specs.Histories.{IsOpenSession, AreAnswers}
use Rattle.pres_server.specs.BaseSums.{open_for, sessions_for, is_gone_for, gone_for, listeners_for, sum_for, BaseHasSum, BaseIsKept}
use Rattle.pres_server.specs.InternalBases.{lasts_in}
use Rattle.pres_server.proofs.Clients.{client_same, clients_apart, same_by_cmp}

abbrev pub Parts : Type 0
Parts = List SessionPart

-- the clients of sessions
abbrev pub clients_of : Parts → List ClientId
clients_of ss = map (λ s. s.session.client) ss

-- ---- what a session listens to

one_listener : (t s : SessionId) (p : Path) (rest : List Listener) → paths_of t (listener_of s p ∷ rest) ≡ cond (same_session t s) (p ∷ paths_of t rest) (paths_of t rest)
one_listener t s p rest = by (same_session t s) where
  own : List Listener
  own = filter (λ l. same_session t l.session) rest

  by : (b : Bool) → map (λ (l : Listener). l.path) (cond b (listener_of s p ∷ own) own) ≡ cond b (p ∷ paths_of t rest) (paths_of t rest)
  by true = refl
  by false = refl

pub own_block : (t s : SessionId) (paths : List Path) (ls : List Listener) → same_session t s ≡ true → paths_of t (map (listener_of s) paths ++ ls) ≡ paths ++ paths_of t ls
own_block t s [] ls h = refl
own_block t s (p ∷ ps) ls h =
    one_listener t s p (map (listener_of s) ps ++ ls)
    ∙ (λ i. cond (h i) (p ∷ own_block t s ps ls h i) (own_block t s ps ls h i))

pub other_block : (t s : SessionId) (paths : List Path) (ls : List Listener) → same_session t s ≡ false → paths_of t (map (listener_of s) paths ++ ls) ≡ paths_of t ls
other_block t s [] ls h = refl
other_block t s (p ∷ ps) ls h =
    one_listener t s p (map (listener_of s) ps ++ ls)
    ∙ (λ i. cond (h i) (p ∷ other_block t s ps ls h i) (other_block t s ps ls h i))

pub none_listen : (t : SessionId) (ss : Parts) → AllByRecursion (λ s. same_session t s.session ≡ false) ss → paths_of t (listeners_for ss) ≡ []
none_listen t [] h = refl
none_listen t (s ∷ ss) h = other_block t s.session s.listens (listeners_for ss) h.0 ∙ none_listen t ss h.1

-- ---- sessions of other clients

pub other_client : (t s : SessionId) → is_eq (client_cmp t.client s.client) ≡ false → same_session t s ≡ false
other_client t s h = ap (λ b. b && t.incarnation == s.incarnation && t.attempt == s.attempt) (sym (same_by_cmp t.client s.client) ∙ h)

-- sessions whose clients come after that of the session
pub later_apart : (c : ClientId) (t : SessionId) (ss : Parts) → t.client ≡ c → AllByRecursion (λ k. client_cmp c k ≡ Less) (clients_of ss) → AllByRecursion (λ s. same_session t s.session ≡ false) ss
later_apart c t [] is h = tt
later_apart c t (s ∷ ss) is h = (other_client t s.session (ap (λ k. is_eq (client_cmp k s.session.client)) is ∙ ap is_eq h.0), later_apart c t ss is h.1)

same_then : (x a b : Bool) → (a && b) ≡ false → (x && a && b) ≡ false
same_then true a b h = h
same_then false a b h = refl

-- the clients are the same of one session
pub client_in : (t s : SessionId) → is_eq (client_cmp t.client s.client) ≡ true → t.client ≡ s.client
client_in t s h = client_same t.client s.client (sym (same_by_cmp t.client s.client) ∙ h)

first_part : (x a b : Bool) → (x && a && b) ≡ true → x ≡ true
first_part true a b h = refl
first_part false a b h = h

-- ---- listeners

module _ (n : ℕ) where
  pub few_listen : (t : SessionId) (ss : Parts) → IsStrictlySortedBy client_cmp (clients_of ss) → All (IsOpenPart n) ss → length (paths_of t (listeners_for ss)) ≤ most_paths
  few_listen t [] sorted each = omega arith
  few_listen t (s ∷ ss) sorted each = by (same_session t s.session) refl (few_listen t ss (sorted_tail client_cmp s.session.client (clients_of ss) sorted) (All-tail (IsOpenPart n) s ss each)) where
    alone : same_session t s.session ≡ true → paths_of t (listeners_for (s ∷ ss)) ≡ s.listens
    alone h =
        own_block t s.session s.listens (listeners_for ss) h
        ∙ ap (λ l. s.listens ++ l) (none_listen t ss (later_apart s.session.client t ss (client_same t.client s.session.client (first_part (same_client t.client s.session.client) _ _ h)) (sorted_head client_cmp s.session.client (clients_of ss) sorted)))
        ∙ append-nil s.listens

    by : (b : Bool) → same_session t s.session ≡ b → length (paths_of t (listeners_for ss)) ≤ most_paths → length (paths_of t (listeners_for (s ∷ ss))) ≤ most_paths
    by true h r = subst (λ ps. length ps ≤ most_paths) (sym (alone h)) (All-head (IsOpenPart n) s ss each).few_listens
    by false h r = subst (λ ps. length ps ≤ most_paths) (sym (other_block t s.session s.listens (listeners_for ss) h)) r

  -- ---- open sessions

  each_open : (ss : Parts) → All (IsOpenPart n) ss → (c : ClientId) → IfSome (find client_cmp c (map (λ s. (s.session.client, open_for s)) ss)) (IsOpenSession n)
  each_open [] each c = tt
  each_open (s ∷ ss) each c = by (is_eq (client_cmp c s.session.client)) (All-head (IsOpenPart n) s ss each) (each_open ss (All-tail (IsOpenPart n) s ss each) c) where
    by : (b : Bool) → IsOpenPart n s → IfSome (find client_cmp c (map (λ s. (s.session.client, open_for s)) ss)) (IsOpenSession n)
        → IfSome (cond b (Some (open_for s)) (find client_cmp c (map (λ s. (s.session.client, open_for s)) ss))) (IsOpenSession n)
    by true h r = record { count = h.q; sent = h.r; asked = λ k d l. omega (arith, h.asked k d l) }
    by false h r = r

-- the session isn't the first one's, where that answers so, nor another one's
abbrev Shut : SessionId → SessionPart → Parts → Bool → Type 0
Shut t s ss b = is_live (option_map live_of (cond b (Some (open_for s)) (find client_cmp t.client (map (λ s. (s.session.client, open_for s)) ss)))) (stamp_of t) ≡ false

-- who isn't open listens to nothing
silent : (t : SessionId) (ss : Parts) → IsStrictlySortedBy client_cmp (clients_of ss)
    → is_live (option_map live_of (find client_cmp t.client (map (λ s. (s.session.client, open_for s)) ss))) (stamp_of t) ≡ false → paths_of t (listeners_for ss) ≡ []
silent t [] sorted shut = refl
silent t (s ∷ ss) sorted shut = by (is_eq (client_cmp t.client s.session.client)) refl shut (silent t ss (sorted_tail client_cmp s.session.client (clients_of ss) sorted)) where
  by : (b : Bool) → is_eq (client_cmp t.client s.session.client) ≡ b → Shut t s ss b → (Shut t s ss false → paths_of t (listeners_for ss) ≡ []) → paths_of t (listeners_for (s ∷ ss)) ≡ []
  by true h shut r =
      other_block t s.session s.listens (listeners_for ss) (same_then (same_client t.client s.session.client) (t.incarnation == s.session.incarnation) (t.attempt == s.session.attempt) shut)
      ∙ none_listen t ss (later_apart s.session.client t ss (client_in t s.session h) (sorted_head client_cmp s.session.client (clients_of ss) sorted))
  by false h shut r = other_block t s.session s.listens (listeners_for ss) (other_client t s.session h) ∙ r shut

-- ---- the order of listeners

all_join : (P : Listener → Type 0) (xs ys : List Listener) → AllByRecursion P xs → AllByRecursion P ys → AllByRecursion P (xs ++ ys)
all_join P [] ys h g = g
all_join P (x ∷ xs) ys h g = (h.0, all_join P xs ys h.1 g)

block_above : (s : SessionId) (p : Path) (ps : List Path) → AllByRecursion (λ q. path_cmp p q ≡ Less) ps → AllByRecursion (λ l. listener_cmp (listener_of s p) l ≡ Less) (map (listener_of s) ps)
block_above s p [] h = tt
block_above s p (q ∷ qs) h = (ap (λ o. ordering_then o (path_cmp p q)) (tied_itself session_total s) ∙ h.0, block_above s p qs h.1)

block_later : (s r : SessionId) (p : Path) (qs : List Path) → client_cmp s.client r.client ≡ Less → AllByRecursion (λ l. listener_cmp (listener_of s p) l ≡ Less) (map (listener_of r) qs)
block_later s r p [] h = tt
block_later s r p (q ∷ qs) h = (ap (λ o. ordering_then (ordering_then o (ordering_then (nat_cmp s.incarnation r.incarnation) (nat_cmp s.attempt r.attempt))) (path_cmp p q)) h, block_later s r p qs h)

flat_later : (s : SessionId) (p : Path) (ss : Parts) → AllByRecursion (λ k. client_cmp s.client k ≡ Less) (clients_of ss) → AllByRecursion (λ l. listener_cmp (listener_of s p) l ≡ Less) (listeners_for ss)
flat_later s p [] h = tt
flat_later s p (r ∷ ss) h = all_join (λ l. listener_cmp (listener_of s p) l ≡ Less) (map (listener_of r.session) r.listens) (listeners_for ss) (block_later s r.session p r.listens h.0) (flat_later s p ss h.1)

join_block : (s : SessionId) (ps : List Path) (ls : List Listener) → IsStrictlySortedBy path_cmp ps → ((p : Path) → AllByRecursion (λ l. listener_cmp (listener_of s p) l ≡ Less) ls) → IsStrictlySortedBy listener_cmp ls → IsStrictlySortedBy listener_cmp (map (listener_of s) ps ++ ls)
unfolding IsStrictlySortedBy
join_block s [] ls h above sorted = sorted
join_block s (p ∷ ps) ls h above sorted = (all_join (λ l. listener_cmp (listener_of s p) l ≡ Less) (map (listener_of s) ps) ls (block_above s p ps h.0) (above p), join_block s ps ls h.1 above sorted)

none_order : IsStrictlySortedBy listener_cmp []
unfolding IsStrictlySortedBy
none_order = tt

pub flat_order : (n : ℕ) (ss : Parts) → IsStrictlySortedBy client_cmp (clients_of ss) → All (IsOpenPart n) ss → IsStrictlySortedBy listener_cmp (listeners_for ss)
flat_order n [] sorted each = none_order
flat_order n (s ∷ ss) sorted each =
    join_block s.session s.listens (listeners_for ss) (All-head (IsOpenPart n) s ss each).listens (λ p. flat_later s.session p ss (sorted_head client_cmp s.session.client (clients_of ss) sorted))
    (flat_order n ss (sorted_tail client_cmp s.session.client (clients_of ss) sorted) (All-tail (IsOpenPart n) s ss each))

-- ---- orders of clients

session_keys : (ss : Parts) → keys_of (map (λ s. (s.session.client, open_for s)) ss) ≡ clients_of ss
session_keys [] = refl
session_keys (s ∷ ss) = ap (λ l. s.session.client ∷ l) (session_keys ss)

client_keys : (cs : List ClientPart) → keys_of (map (λ c. (c.id, c.last)) cs) ≡ map (λ c. c.id) cs
client_keys [] = refl
client_keys (c ∷ cs) = ap (λ l. c.id ∷ l) (client_keys cs)

keys_where : {X : Type 0} (test : ClientId → Bool) (es : List (ClientId × X)) → keys_of (where_key client_cmp test es) ≡ filter test (keys_of es)
keys_where test [] = refl
keys_where test (e ∷ es) = by (test e.0) (keys_where test es) where
  by : (b : Bool) → keys_of (where_key client_cmp test es) ≡ filter test (keys_of es)
      → keys_of (cond b (e ∷ where_key client_cmp test es) (where_key client_cmp test es)) ≡ cond b (e.0 ∷ filter test (keys_of es)) (filter test (keys_of es))
  by true r = ap (λ l. e.0 ∷ l) r
  by false r = r

-- ---- clients

-- the client has answers
abbrev has_rows : ClientId × List Row → Bool
has_rows e = nat_lt 0 (length e.1)

pub rows_above : (k : ClientId) (cs : List ClientPart) → AllByRecursion (λ y. client_cmp k y ≡ Less) (map (λ c. c.id) cs) → AllByRecursion (λ y. client_cmp k y ≡ Less) (keys_of (answers_for cs))
rows_above k [] h = tt
rows_above k (c ∷ cs) h = by (has_rows (c.id, c.rows)) (rows_above k cs h.1) where
  by : (b : Bool) → AllByRecursion (λ y. client_cmp k y ≡ Less) (keys_of (answers_for cs)) → AllByRecursion (λ y. client_cmp k y ≡ Less) (keys_of (cond b ((c.id, c.rows) ∷ answers_for cs) (answers_for cs)))
  by true r = (h.0, r)
  by false r = r

pub rows_order : (cs : List ClientPart) → IsStrictlySortedBy client_cmp (map (λ c. c.id) cs) → IsStrictlySortedBy client_cmp (keys_of (answers_for cs))
unfolding IsStrictlySortedBy
rows_order [] h = tt
rows_order (c ∷ cs) h = by (has_rows (c.id, c.rows)) (rows_order cs h.1) where
  by : (b : Bool) → IsStrictlySortedBy client_cmp (keys_of (answers_for cs)) → IsStrictlySortedBy client_cmp (keys_of (cond b ((c.id, c.rows) ∷ answers_for cs) (answers_for cs)))
  by true r = (rows_above c.id cs h.0, r)
  by false r = r

rows_done : (n : ℕ) (cs : List ClientPart) → All (λ c. IsTrue (are_done 0 n c.rows)) cs → (k : ClientId) → IfSome (find client_cmp k (answers_for cs)) (AreAnswers n)
rows_done n [] h k = tt
rows_done n (c ∷ cs) h k = by (has_rows (c.id, c.rows)) refl (rows_done n cs (All-tail (λ c. IsTrue (are_done 0 n c.rows)) c cs h) k) where
  own : (b : Bool) → has_rows (c.id, c.rows) ≡ true → IfSome (find client_cmp k (answers_for cs)) (AreAnswers n) → IfSome (cond b (Some c.rows) (find client_cmp k (answers_for cs))) (AreAnswers n)
  own true some r = (ltb-true 0 (length c.rows) some, All-head (λ c. IsTrue (are_done 0 n c.rows)) c cs h)
  own false some r = r

  by : (b : Bool) → has_rows (c.id, c.rows) ≡ b → IfSome (find client_cmp k (answers_for cs)) (AreAnswers n) → IfSome (find client_cmp k (cond b ((c.id, c.rows) ∷ answers_for cs) (answers_for cs))) (AreAnswers n)
  by true some r = own (is_eq (client_cmp k c.id)) some r
  by false some r = r

has_last : (c : ClientId) (cs : List ClientPart) → IsSome (find client_cmp c (answers_for cs)) → IsSome (find client_cmp c (lasts_in cs))
has_last c [] h = h
has_last c (x ∷ cs) h = by (has_rows (x.id, x.rows)) (is_eq (client_cmp c x.id)) refl h (has_last c cs) where
  by : (some same : Bool) → is_eq (client_cmp c x.id) ≡ same → IsSome (find client_cmp c (cond some ((x.id, x.rows) ∷ answers_for cs) (answers_for cs)))
      → (IsSome (find client_cmp c (answers_for cs)) → IsSome (find client_cmp c (lasts_in cs))) → IsSome (cond same (Some x.last) (find client_cmp c (lasts_in cs)))
  by some true is h r = refl
  by true false is h r = r (subst (λ b. IsSome (cond b (Some x.rows) (find client_cmp c (answers_for cs)))) is h)
  by false false is h r = r h

pub gone_at : (p : BaseParts) (c : ClientId) → find client_cmp c (gone_for p) ≡ cond (is_gone_for p c) (find client_cmp c (lasts_in p.clients)) None
gone_at p c = find-where_key client_cmp (is_gone_for p) c (λ x e. ap (is_gone_for p) (sym (clients_apart c x e))) (lasts_in p.clients)

last_known : (p : BaseParts) (c : ClientId) → IsSome (find client_cmp c (answers_for p.clients)) → IsSome (part_in (sum_for p) c).last
last_known p c h = subst (λ o. IsSome (last_by (find client_cmp c (sessions_for p)) o)) (sym (gone_at p c)) (by (find client_cmp c (sessions_for p))) where
  by : (o : Option OpenSession) → IsSome (last_by o (cond (not (is_some o)) (find client_cmp c (lasts_in p.clients)) None))
  by None = has_last c p.clients h
  by (Some session) = refl

none_open : (p : BaseParts) (c : ClientId) → IsSome (find client_cmp c (gone_for p)) → find client_cmp c (sessions_for p) ≡ None
none_open p c h = by (find client_cmp c (sessions_for p)) (subst IsSome (gone_at p c) h) where
  by : (o : Option OpenSession) → IsSome (cond (not (is_some o)) (find client_cmp c (lasts_in p.clients)) None) → o ≡ None
  by None h = refl
  by (Some session) h = absurd (true≢false (sym h))

-- ---- the sum

pub base_has_sum : (p : BaseParts) → BaseHasSum p
base_has_sum p h = record {
  keeps = record {
    sessions = subst (IsStrictlySortedBy client_cmp) (sym (session_keys p.sessions)) h.sessions;
    gone = subst (IsStrictlySortedBy client_cmp) (sym (keys_where (is_gone_for p) (map (λ c. (c.id, c.last)) p.clients) ∙ ap (filter (is_gone_for p)) (client_keys p.clients))) (IsStrictlySortedBy-filter client_cmp (is_gone_for p) (map (λ c. c.id) p.clients) h.clients);
    answered = rows_order p.clients h.clients;
    each = each_open p.number p.sessions h.each;
    answers = rows_done p.number p.clients h.answers;
    known = λ c some. last_known p c some;
    apart = λ c some. none_open p c some;
    listeners = record { ordered = flat_order p.number p.sessions h.sessions h.each; few = λ t. few_listen p.number t p.sessions h.sessions h.each };
    listening = λ t shut. silent t p.sessions h.sessions shut;
  };
  few = subst (λ n. n ≤ 1024) (sym open_count) h.few;
  batches = h.batches;
  room = subst (λ n. p.number + n ≤ 2 ^ 52 - 1) (sym open_count) h.room;
  moment = h.moment;
} where
  open_count : length (sum_for p).sessions ≡ length p.sessions
  open_count = length-map p.sessions (λ s. (s.session.client, open_for s))

-- ---- plans

each_plan : (n : ℕ) (ss : Parts) → All (IsOpenPart n) ss → All (λ (e : ClientId × OpenSession). IsPlan e.1.plan) (map (λ s. (s.session.client, open_for s)) ss)
each_plan n [] h = All-nil (λ (e : ClientId × OpenSession). IsPlan e.1.plan)
each_plan n (s ∷ ss) h = All-cons (λ (e : ClientId × OpenSession). IsPlan e.1.plan) (s.session.client, open_for s) (map (λ s. (s.session.client, open_for s)) ss) (All-head (IsOpenPart n) s ss h).plan (each_plan n ss (All-tail (IsOpenPart n) s ss h))

pub base_is_kept : (p : BaseParts) → BaseIsKept p
base_is_kept p h = record { holds = base_has_sum p h; plans = each_plan p.number p.sessions h.each }
