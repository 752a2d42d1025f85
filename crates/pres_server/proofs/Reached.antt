-- The sessions that an entry reaches, among the open ones in byte order of their clients.
use Rattle.std.proofs.Common.{refl, sym, ◌∙◌, ap, subst, ◌≡◌, List, [], ◌∷◌, map, Bool, true, false, cond, ◌||◌, ◌&&◌, ◌==◌, Option, Some, None, T, Ordering, Less, Equal, Greater}
use Rattle.std.specs.List.{list_any, AllByRecursion}
use Rattle.std.specs.Ordering.{is_lt, is_eq, ordering_then, nat_cmp}
use Rattle.std.specs.FinMap.Entries.{find, is_sorted, below_all}
use Rattle.pres_tree.specs.Paths.{Path}
use Rattle.pres_ids.specs.declared.id.SessionId.{SessionId}
use Rattle.pres_ids.specs.Ids.{ClientId, client_cmp, same_client, same_session}
use Rattle.pres_fan.specs.Listeners.{session_cmp}
use Rattle.pres_fan.specs.Laws.{some_paths}
use Rattle.pres_fan.proofs.Orders.{same_by_cmp as same_by_session}
use Rattle.pres_server.specs.InternalSessions.{Session, sent_one, MaySend}
use Rattle.pres_server.specs.InternalPushes.{TouchedSession, Standing, after_push, after_pushes, MayPush, MayPushAll}
use Rattle.pres_server.proofs.Clients.{client_same, client_sym, session_same, same_by_cmp, by_client}

-- in byte order of clients, each client once
abbrev pub InOrder : List SessionId → Type 0
InOrder ss = T (is_sorted client_cmp (map by_client ss))

-- the client comes before those of all of them
abbrev pub Below : ClientId → List SessionId → Type 0
Below c ss = T (below_all client_cmp c (map by_client ss))

pub first : (a b : Bool) → T (a && b) → T a
first true b h = tt
first false b h = h

pub second : (a b : Bool) → T (a && b) → T b
second true b h = h
second false b h = absurd h

both : (a b : Bool) → T a → T b → T (a && b)
both true b h k = k
both false b h k = h

pub apart : (c k : ClientId) → T (is_lt (client_cmp c k)) → same_client c k ≡ false
apart c k h = sym (same_by_cmp c k) ∙ by (client_cmp c k) h where
  by : (o : Ordering) → T (is_lt o) → is_eq o ≡ false
  by Less t = refl
  by Equal t = absurd t
  by Greater t = absurd t

-- a client that comes before all of them has none of them
none_below : (c d : ClientId) (ss : List SessionId) → same_client d c ≡ true → Below c ss → find client_cmp d (map by_client ss) ≡ None
none_below c d [] k h = refl
none_below c d (s ∷ ss) k h =
    let n : same_client d s.client ≡ false = ap (λ x. same_client x s.client) (client_same d c k) ∙ apart c s.client (first _ _ h) in
    ap (λ b. cond b (Some s) (find client_cmp d (map by_client ss))) (same_by_cmp d s.client ∙ n)
    ∙ none_below c d ss k (second _ _ h)

-- ---- who is reached

abbrev pub reach : List Path → SessionId → List TouchedSession → List TouchedSession
reach [] s rest = rest
reach (p ∷ paths) s rest = (s, p ∷ paths) ∷ rest

-- those of whose paths some are touched, with these paths
abbrev pub reached : (SessionId → List Path) → List SessionId → List TouchedSession
reached g [] = []
reached g (s ∷ ss) = reach (g s) s (reached g ss)

-- where a session stands after a Push of what is touched of it, if something is
abbrev pub stepped : List Path → Option Session → Option Session
stepped [] live = live
stepped (p ∷ paths) live = sent_one live

abbrev pub step_by : (SessionId → List Path) → Option SessionId → Option Session → Option Session
step_by g None live = live
step_by g (Some s) live = stepped (g s) live

pub after_reached : (g : SessionId → List Path) (ss : List SessionId) (live : Standing) → InOrder ss → (c : ClientId) → after_pushes live (reached g ss) c ≡ step_by g (find client_cmp c (map by_client ss)) (live c)
after_reached g [] live h c = refl
after_reached g (s ∷ ss) live h c = by (g s) refl (same_client c s.client) refl (λ l. after_reached g ss l (second _ _ h) c) where
  found : Option SessionId
  found = find client_cmp c (map by_client ss)

  there : (b : Bool) → same_client c s.client ≡ b → find client_cmp c (map by_client (s ∷ ss)) ≡ cond b (Some s) found
  there b k = ap (λ t. cond t (Some s) found) (same_by_cmp c s.client ∙ k)

  by : (ps : List Path) → g s ≡ ps → (b : Bool) → same_client c s.client ≡ b → ((l : Standing) → after_pushes l (reached g ss) c ≡ step_by g found (l c))
      → after_pushes live (reach ps s (reached g ss)) c ≡ step_by g (find client_cmp c (map by_client (s ∷ ss))) (live c)
  by [] k true n r = r live ∙ ap (λ o. step_by g o (live c)) (none_below s.client c ss n (first _ _ h)) ∙ sym (ap (λ o. step_by g o (live c)) (there true n) ∙ ap (λ ps. stepped ps (live c)) k)
  by [] k false n r = r live ∙ sym (ap (λ o. step_by g o (live c)) (there false n))
  by (p ∷ ps) k true n r =
      r (after_push live (s, p ∷ ps))
      ∙ ap (λ o. step_by g o (after_push live (s, p ∷ ps) c)) (none_below s.client c ss n (first _ _ h))
      ∙ ap (λ b. cond b (sent_one (live c)) (live c)) (client_sym s.client c ∙ n)
      ∙ sym (ap (λ o. step_by g o (live c)) (there true n) ∙ ap (λ ps. stepped ps (live c)) k)
  by (p ∷ ps) k false n r =
      r (after_push live (s, p ∷ ps))
      ∙ ap (λ b. step_by g found (cond b (sent_one (live c)) (live c))) (client_sym s.client c ∙ n)
      ∙ sym (ap (λ o. step_by g o (live c)) (there false n))

-- ---- what they are sent

-- who stands after a Push to another client's session stands as before
pub after_other : (live : Standing) (s : SessionId) (ps : List Path) (c : ClientId) → same_client s.client c ≡ false → after_push live (s, ps) c ≡ live c
after_other live s ps c n = ap (λ b. cond b (sent_one (live c)) (live c)) n

-- ---- that they may be sent it

may_alike : (g : SessionId → List Path) (live new : Standing) (k : ClientId) → ((c : ClientId) → same_client k c ≡ false → new c ≡ live c)
    → (ss : List SessionId) → Below k ss → AllByRecursion (λ s. MayPush live (s, g s)) ss → AllByRecursion (λ s. MayPush new (s, g s)) ss
may_alike g live new k e [] h a = tt
may_alike g live new k e (s ∷ ss) h a =
    (record { number = subst MaySend (sym (e s.client (apart k s.client (first _ _ h)))) a.0.number; order = a.0.order }, may_alike g live new k e ss (second _ _ h) a.1)

pub may_reach : (g : SessionId → List Path) (ss : List SessionId) (live : Standing) → InOrder ss → AllByRecursion (λ s. MayPush live (s, g s)) ss → MayPushAll live (reached g ss)
may_reach g [] live h a = tt
may_reach g (s ∷ ss) live h a = by (g s) refl (λ l. may_reach g ss l (second _ _ h)) where
  by : (ps : List Path) → g s ≡ ps → ((l : Standing) → AllByRecursion (λ s. MayPush l (s, g s)) ss → MayPushAll l (reached g ss)) → MayPushAll live (reach ps s (reached g ss))
  by [] k r = r live a.1
  by (p ∷ ps) k r = (subst (λ x. MayPush live (s, x)) k a.0, r (after_push live (s, p ∷ ps)) (may_alike g live (after_push live (s, p ∷ ps)) s.client (λ c n. after_other live s (p ∷ ps) c n) ss (first _ _ h) a.1))

-- ---- as a sorted list

pub find_reached : (g : SessionId → List Path) (ss : List SessionId) (s : SessionId) → find session_cmp s (reached g ss) ≡ cond (list_any (same_session s) ss) (some_paths (g s)) None
find_reached g [] s = refl
find_reached g (x ∷ ss) s = by (g x) refl (same_session s x) refl (find_reached g ss s) where
  any : Bool
  any = list_any (same_session s) ss

  nothing : (b : Bool) → cond {A = Option (List Path)} b None None ≡ None
  nothing true = refl
  nothing false = refl

  by : (ps : List Path) → g x ≡ ps → (b : Bool) → same_session s x ≡ b → find session_cmp s (reached g ss) ≡ cond any (some_paths (g s)) None
      → find session_cmp s (reach ps x (reached g ss)) ≡ cond (same_session s x || any) (some_paths (g s)) None
  by [] k true n r =
      let none : some_paths (g s) ≡ None = ap (λ y. some_paths (g y)) (session_same s x n) ∙ ap some_paths k in
      r ∙ ap (λ o. cond any o None) none ∙ nothing any ∙ sym none ∙ sym (ap (λ b. cond (b || any) (some_paths (g s)) None) n)
  by [] k false n r = r ∙ sym (ap (λ b. cond (b || any) (some_paths (g s)) None) n)
  by (p ∷ ps) k true n r =
      ap (λ b. cond b (Some (p ∷ ps)) (find session_cmp s (reached g ss))) (same_by_session s x ∙ n)
      ∙ sym (ap (λ y. some_paths (g y)) (session_same s x n) ∙ ap some_paths k)
      ∙ sym (ap (λ b. cond (b || any) (some_paths (g s)) None) n)
  by (p ∷ ps) k false n r =
      ap (λ b. cond b (Some (p ∷ ps)) (find session_cmp s (reached g ss))) (same_by_session s x ∙ n)
      ∙ r
      ∙ sym (ap (λ b. cond (b || any) (some_paths (g s)) None) n)

earlier : (s x : SessionId) → T (is_lt (client_cmp s.client x.client)) → T (is_lt (session_cmp s x))
earlier s x h = by (client_cmp s.client x.client) (ordering_then (nat_cmp s.incarnation x.incarnation) (nat_cmp s.attempt x.attempt)) h where
  by : (o r : Ordering) → T (is_lt o) → T (is_lt (ordering_then o r))
  by Less r t = tt
  by Equal r t = absurd t
  by Greater r t = absurd t

below_reached : (g : SessionId → List Path) (s : SessionId) (ss : List SessionId) → Below s.client ss → T (below_all session_cmp s (reached g ss))
below_reached g s [] h = tt
below_reached g s (x ∷ ss) h = by (g x) (below_reached g s ss (second _ _ h)) where
  by : (ps : List Path) → T (below_all session_cmp s (reached g ss)) → T (below_all session_cmp s (reach ps x (reached g ss)))
  by [] r = r
  by (p ∷ ps) r = both _ _ (earlier s x (first _ _ h)) r

pub reached_sorted : (g : SessionId → List Path) (ss : List SessionId) → InOrder ss → T (is_sorted session_cmp (reached g ss))
reached_sorted g [] h = tt
reached_sorted g (s ∷ ss) h = by (g s) (reached_sorted g ss (second _ _ h)) where
  by : (ps : List Path) → T (is_sorted session_cmp (reached g ss)) → T (is_sorted session_cmp (reach ps s (reached g ss)))
  by [] r = r
  by (p ∷ ps) r = both _ _ (below_reached g s ss (first _ _ h)) r

-- ---- members

abbrev pub is_found : SessionId → Option SessionId → Bool
is_found s None = false
is_found s (Some t) = same_session s t

pub any_found : (ss : List SessionId) (s : SessionId) → InOrder ss → list_any (same_session s) ss ≡ is_found s (find client_cmp s.client (map by_client ss))
any_found [] s h = refl
any_found (x ∷ ss) s h = by (same_client s.client x.client) refl (any_found ss s (second _ _ h)) where
  found : Option SessionId
  found = find client_cmp s.client (map by_client ss)

  there : (b : Bool) → same_client s.client x.client ≡ b → find client_cmp s.client (map by_client (x ∷ ss)) ≡ cond b (Some x) found
  there b k = ap (λ t. cond t (Some x) found) (same_by_cmp s.client x.client ∙ k)

  or_nothing : (b : Bool) → (b || false) ≡ b
  or_nothing true = refl
  or_nothing false = refl

  by : (b : Bool) → same_client s.client x.client ≡ b → list_any (same_session s) ss ≡ is_found s found → (same_session s x || list_any (same_session s) ss) ≡ is_found s (find client_cmp s.client (map by_client (x ∷ ss)))
  by true k r =
      ap (λ b. same_session s x || b) (r ∙ ap (is_found s) (none_below x.client s.client ss k (first _ _ h)))
      ∙ or_nothing (same_session s x)
      ∙ sym (ap (is_found s) (there true k))
  by false k r =
      ap (λ b. (b && s.incarnation == x.incarnation && s.attempt == x.attempt) || list_any (same_session s) ss) k
      ∙ r
      ∙ sym (ap (is_found s) (there false k))

pub all_members : (P : SessionId → Type 0) (ss : List SessionId) → ((s : SessionId) → list_any (same_session s) ss ≡ true → P s) → ((s : SessionId) → same_session s s ≡ true) → AllByRecursion P ss
all_members P [] h itself = tt
all_members P (s ∷ ss) h itself = (h s (ap (λ b. b || list_any (same_session s) ss) (itself s)), all_members P ss (λ x k. h x (later (same_session x s) _ k)) itself) where
  later : (a b : Bool) → b ≡ true → (a || b) ≡ true
  later true b k = refl
  later false b k = k
