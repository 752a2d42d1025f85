-- When clients were heard of last: the list that is defined is the one that the places of the clients give.
use Rattle.std.proofs.Common.{refl, sym, ◌∙◌, ap, subst, ◌≡◌, ℕ, max, List, [], ◌∷◌, map, Bool, true, false, not, cond, ◌&&◌, Option, Some, None, T, IsSome, is_some, unwrap_or}
use Rattle.std.specs.List.{AllByRecursion}
use Rattle.std.specs.Option.{option_map}
use Rattle.std.specs.Map.{lookup, keys_of}
use Rattle.std.specs.BTreeMap.{is_at, IsOrdered, Updates}
use Rattle.std.specs.List.Sorted.{IsStrictlySortedBy}
use Rattle.std.specs.Ordering.{is_lt, is_eq}
use Rattle.std.specs.declared.cmp.Ordering.TheVariants.{Less}
use Rattle.std.specs.FinMap.Entries.{find, put, where_key, is_sorted, below_all, find-put, find-where_key, is_sorted-put, is_sorted-where_key, same_entries}
use Rattle.std.proofs.lemmas.Map.Keys.{sorted_head, sorted_tail}
use Rattle.pres_ids.specs.Ids.{ClientId, client_cmp, same_client}
use Rattle.pres_log.specs.declared.entry.Entry.{Entry}
use Rattle.pres_log.specs.declared.entry.Entry.TheVariants as entry
use Rattle.pres_write.specs.Basics.{BasicWrite}
use Rattle.pres_fan.specs.Listeners.{touched}
use Rattle.pres_server.specs.declared.index.Index.{Index}
use Rattle.pres_server.specs.Sessions.{session_of}
use Rattle.pres_server.specs.ServerStates.{Heard, heard_last, heard_since, heard_again, heard_after, heard_after_all, first_client}
use Rattle.pres_server.specs.InternalParts.{plan_after}
use Rattle.pres_server.specs.InternalSessions.{Session, moment_at, live_after, answered, heard_at, sent_one}
use Rattle.pres_server.specs.InternalPushes.{TouchedSession, Standing, after_push, after_pushes}
use Rattle.pres_server.specs.InternalIndex.{session_at, heard_in, Carries, Steps, Tells, Hears}
use Rattle.pres_server.proofs.Clients.{client_same, client_itself, client_sym, clients_total, clients_apart, same_by_cmp}
use Rattle.pres_server.proofs.Taken.{live_new}

-- ---- the list, client by client

find_put : (c k : ClientId) (m : ℕ) (heard : Heard) (b : Bool) → same_client k c ≡ b → find client_cmp c (put client_cmp k m heard) ≡ cond b (Some m) (find client_cmp c heard)
find_put c k m heard b h =
    find-put client_cmp clients_total c k m heard
    ∙ ap (λ t. cond t (Some m) (find client_cmp c heard)) (same_by_cmp c k ∙ client_sym c k ∙ h)

find_where : (c k : ClientId) (heard : Heard) (b : Bool) → same_client k c ≡ b → find client_cmp c (where_key client_cmp (λ x. not (same_client k x)) heard) ≡ cond (not b) (find client_cmp c heard) None
find_where c k heard b h =
    find-where_key client_cmp (λ x. not (same_client k x)) c (λ x e. ap (λ y. not (same_client k y)) (sym (clients_apart c x e))) heard
    ∙ ap (λ t. cond (not t) (find client_cmp c heard) None) h

again_own : (k : ClientId) (m : ℕ) (heard : Heard) (o : Option ℕ) → heard_last heard k ≡ o → heard_last (heard_again k m heard) k ≡ option_map (λ last. max last m) o
again_own k m heard o h = ap (λ x. heard_last (heard_since x k m heard) k) h ∙ by o h where
  by : (o : Option ℕ) → heard_last heard k ≡ o → heard_last (heard_since o k m heard) k ≡ option_map (λ last. max last m) o
  by None h = h
  by (Some last) h = find_put k k (max last m) heard true (client_itself k)

again_other : (c k : ClientId) (m : ℕ) (heard : Heard) → same_client k c ≡ false → heard_last (heard_again k m heard) c ≡ heard_last heard c
again_other c k m heard h = by (heard_last heard k) where
  by : (o : Option ℕ) → heard_last (heard_since o k m heard) c ≡ heard_last heard c
  by None = refl
  by (Some last) = find_put c k (max last m) heard false h

moment_answered : (m : ℕ) (e : Entry) (live : Option Session) → moment_at (option_map (λ session. answered m (plan_after e session.plan) session) live) ≡ option_map (λ last. max last m) (moment_at live)
moment_answered m e None = refl
moment_answered m e (Some session) = refl

moment_heard : (m : ℕ) (live : Option Session) → moment_at (heard_at m live) ≡ option_map (λ last. max last m) (moment_at live)
moment_heard m None = refl
moment_heard m (Some session) = refl

own_after : (m : ℕ) (e : Entry) (heard : Heard) (live : Option Session) → heard_last heard (session_of e).client ≡ moment_at live → heard_last (heard_after m e heard) (session_of e).client ≡ moment_at (live_after m e live)
own_after m (entry.Open s) heard live h = find_put s.client s.client m heard true (client_itself s.client)
own_after m (entry.Op s q n op outcome) heard live h = again_own s.client m heard (moment_at live) h ∙ sym (moment_answered m (entry.Op s q n op outcome) live)
own_after m (entry.Again s q n) heard live h = again_own s.client m heard (moment_at live) h ∙ sym (moment_answered m (entry.Again s q n) live)
own_after m (entry.Left s q puts) heard live h = again_own s.client m heard (moment_at live) h ∙ sym (moment_answered m (entry.Left s q puts) live)
own_after m (entry.Cancelled s q path) heard live h = again_own s.client m heard (moment_at live) h ∙ sym (moment_answered m (entry.Cancelled s q path) live)
own_after m (entry.Denied s q why) heard live h = again_own s.client m heard (moment_at live) h ∙ sym (moment_answered m (entry.Denied s q why) live)
own_after m (entry.On s q path) heard live h = again_own s.client m heard (moment_at live) h ∙ sym (moment_answered m (entry.On s q path) live)
own_after m (entry.Off s q path) heard live h = again_own s.client m heard (moment_at live) h ∙ sym (moment_answered m (entry.Off s q path) live)
own_after m (entry.Ended s q why rows) heard live h = find_where s.client s.client heard true (client_itself s.client)

other_after : (m : ℕ) (e : Entry) (c : ClientId) (heard : Heard) → same_client (session_of e).client c ≡ false → heard_last (heard_after m e heard) c ≡ heard_last heard c
other_after m (entry.Open s) c heard h = find_put c s.client m heard false h
other_after m (entry.Op s q n op outcome) c heard h = again_other c s.client m heard h
other_after m (entry.Again s q n) c heard h = again_other c s.client m heard h
other_after m (entry.Left s q puts) c heard h = again_other c s.client m heard h
other_after m (entry.Cancelled s q path) c heard h = again_other c s.client m heard h
other_after m (entry.Denied s q why) c heard h = again_other c s.client m heard h
other_after m (entry.On s q path) c heard h = again_other c s.client m heard h
other_after m (entry.Off s q path) c heard h = again_other c s.client m heard h
other_after m (entry.Ended s q why rows) c heard h = find_where c s.client heard false h

moment_stepped : (live : Standing) (reached : TouchedSession) (c : ClientId) → moment_at (after_push live reached c) ≡ moment_at (live c)
moment_stepped live reached c = by (same_client reached.0.client c) (live c) where
  by : (b : Bool) (o : Option Session) → moment_at (cond b (sent_one o) o) ≡ moment_at o
  by true None = refl
  by true (Some session) = refl
  by false o = refl

moment_pushed : (live : Standing) (ts : List TouchedSession) (c : ClientId) → moment_at (after_pushes live ts c) ≡ moment_at (live c)
moment_pushed live [] c = refl
moment_pushed live (t ∷ ts) c = moment_pushed (after_push live t) ts c ∙ moment_stepped live t c

-- a Push to a session changes nothing in when its client was heard of
pub tells_carried : (writes : List BasicWrite) (old mid : Index) (heard : Heard) → Tells heard old → Carries writes old mid → Tells heard mid
tells_carried writes old mid heard t carried = λ c. t c ∙ sym (ap moment_at (carried.live c) ∙ moment_pushed (session_at old) (touched writes old.listeners) c)

-- the list of one entry more is that of the index with one entry more
pub tells_after : (z m : ℕ) (old new : Index) (e : Entry) (heard : Heard) → Tells heard old → Steps z m old new e → Tells (heard_after m e heard) new
tells_after z m old new e heard t st = λ c. by c (same_client k c) refl where
  k : ClientId
  k = (session_of e).client

  by : (c : ClientId) (b : Bool) → same_client k c ≡ b → heard_last (heard_after m e heard) c ≡ moment_at (session_at new c)
  by c true h =
      subst (λ x. heard_last (heard_after m e heard) x ≡ moment_at (session_at new x)) (client_same k c h)
      (own_after m e heard (session_at old k) (t k) ∙ sym (ap moment_at (live_new z m old new e st k true (client_itself k))))
  by c false h = other_after m e c heard h ∙ t c ∙ sym (ap moment_at (live_new z m old new e st c false h))

-- ---- the list is in order

again_sorted : (k : ClientId) (m : ℕ) (heard : Heard) → T (is_sorted client_cmp heard) → T (is_sorted client_cmp (heard_again k m heard))
again_sorted k m heard h = by (heard_last heard k) where
  by : (o : Option ℕ) → T (is_sorted client_cmp (heard_since o k m heard))
  by None = h
  by (Some last) = is_sorted-put client_cmp clients_total k (max last m) heard h

sorted_after : (m : ℕ) (e : Entry) (heard : Heard) → T (is_sorted client_cmp heard) → T (is_sorted client_cmp (heard_after m e heard))
sorted_after m (entry.Open s) heard h = is_sorted-put client_cmp clients_total s.client m heard h
sorted_after m (entry.Op s q n op outcome) heard h = again_sorted s.client m heard h
sorted_after m (entry.Again s q n) heard h = again_sorted s.client m heard h
sorted_after m (entry.Left s q puts) heard h = again_sorted s.client m heard h
sorted_after m (entry.Cancelled s q path) heard h = again_sorted s.client m heard h
sorted_after m (entry.Denied s q why) heard h = again_sorted s.client m heard h
sorted_after m (entry.On s q path) heard h = again_sorted s.client m heard h
sorted_after m (entry.Off s q path) heard h = again_sorted s.client m heard h
sorted_after m (entry.Ended s q why rows) heard h = is_sorted-where_key client_cmp (λ x. not (same_client s.client x)) heard h

pub sorted_after_all : (m : ℕ) (es : List Entry) (heard : Heard) → T (is_sorted client_cmp heard) → T (is_sorted client_cmp (heard_after_all m es heard))
sorted_after_all m [] heard h = h
sorted_after_all m (e ∷ es) heard h = sorted_after_all m es (heard_after m e heard) (sorted_after m e heard h)

-- ---- the list that the open sessions give

-- each open session after its client, as something else
abbrev pub behind : {X : Type 0} → (ClientId → Session → X) → List (ClientId × Session) → List (ClientId × X)
behind f es = map (λ (e : ClientId × Session). (e.0, f e.0 e.1)) es

pub keys_behind : {X : Type 0} (f : ClientId → Session → X) (es : List (ClientId × Session)) → keys_of (behind f es) ≡ keys_of es
keys_behind f [] = refl
keys_behind f (e ∷ es) = ap (λ l. e.0 ∷ l) (keys_behind f es)

below_keys : {X : Type 0} (c : ClientId) (es : List (ClientId × X)) → AllByRecursion (λ k. client_cmp c k ≡ Less) (keys_of es) → T (below_all client_cmp c es)
below_keys c [] h = tt
below_keys c (e ∷ es) h = subst (λ o. T (is_lt o && below_all client_cmp c es)) (sym h.0) (below_keys c es h.1)

sorted_keys : {X : Type 0} (es : List (ClientId × X)) → IsStrictlySortedBy client_cmp (keys_of es) → T (is_sorted client_cmp es)
sorted_keys [] h = tt
sorted_keys (e ∷ es) h = both _ _ (below_keys e.0 es (sorted_head client_cmp e.0 (keys_of es) h)) (sorted_keys es (sorted_tail client_cmp e.0 (keys_of es) h)) where
  both : (a c : Bool) → T a → T c → T (a && c)
  both true c p q = q
  both false c p q = p

pub behind_sorted : {X : Type 0} (f : ClientId → Session → X) (es : List (ClientId × Session)) → IsStrictlySortedBy client_cmp (keys_of es) → T (is_sorted client_cmp (behind f es))
behind_sorted f es h = sorted_keys (behind f es) (subst (IsStrictlySortedBy client_cmp) (sym (keys_behind f es)) h)

pub find_behind : {X : Type 0} (f : ClientId → Session → X) (c : ClientId) (es : List (ClientId × Session)) → find client_cmp c (behind f es) ≡ option_map (f c) (lookup (is_at (client_cmp c)) es)
find_behind f c [] = refl
find_behind f c (e ∷ es) = by (is_eq (client_cmp c e.0)) refl (find_behind f c es) where
  by : (b : Bool) → is_eq (client_cmp c e.0) ≡ b → find client_cmp c (behind f es) ≡ option_map (f c) (lookup (is_at (client_cmp c)) es)
      → cond b (Some (f e.0 e.1)) (find client_cmp c (behind f es)) ≡ option_map (f c) (cond b (Some e.1) (lookup (is_at (client_cmp c)) es))
  by true h r = ap (λ k. Some (f k e.1)) (sym (client_same c e.0 (sym (same_by_cmp c e.0) ∙ h)))
  by false h r = r

pub heard_tells : (index : Index) → Tells (heard_in index) index
heard_tells index = λ c. find_behind (λ k s. s.heard) c index.places.live.entries

pub heard_sorted : (index : Index) → IsOrdered client_cmp index.places.live → T (is_sorted client_cmp (heard_in index))
heard_sorted index o = behind_sorted (λ k s. s.heard) index.places.live.entries o

-- a list in order that says what the places say is the list that they give
pub heard_is : (heard : Heard) (index : Index) → T (is_sorted client_cmp heard) → IsOrdered client_cmp index.places.live → Tells heard index → heard_in index ≡ heard
heard_is heard index s o t =
    same_entries client_cmp clients_total clients_apart (heard_in index) heard (heard_sorted index o) s (λ c. heard_tells index c ∙ sym (t c))

-- ---- a client that was heard of

some_of : (o : Option Session) (x : Session) → o ≡ Some x → IsSome o
some_of o x h = ap is_some h

-- what a map says at the client, and at each other one
pub hears : (k : ClientId) (m : ℕ) (old new : Index) → (IsSome (session_at old k) → Updates client_cmp old.places.live new.places.live k (heard_at m (session_at old k)))
    → (session_at old k ≡ None → new.places.live.entries ≡ old.places.live.entries) → new.places.gone ≡ old.places.gone → new.retry ≡ old.retry → new.listeners ≡ old.listeners → new.tree ≡ old.tree → Hears k m old new
hears k m old new known stranger g r l t = record { live = λ c. by (session_at old k) refl c (same_client k c) refl; gone = g; retry = r; listeners = l; tree = t } where
  by : (p : Option Session) → session_at old k ≡ p → (c : ClientId) (b : Bool) → same_client k c ≡ b → session_at new c ≡ cond b (heard_at m (session_at old k)) (session_at old c)
  by None h c true s = ap (λ es. lookup (is_at (client_cmp c)) es) (stranger h) ∙ sym (ap (session_at old) (client_same k c s)) ∙ h ∙ sym (ap (heard_at m) h)
  by None h c false s = ap (λ es. lookup (is_at (client_cmp c)) es) (stranger h)
  by (Some x) h c b s = (known (some_of (session_at old k) x h)).0 c ∙ ap (λ t. cond t (heard_at m (session_at old k)) (session_at old c)) (same_by_cmp k c ∙ s)

pub hear_tells : (k : ClientId) (m : ℕ) (old new : Index) (heard : Heard) → Hears k m old new → Tells heard old → Tells (heard_again k m heard) new
hear_tells k m old new heard h t = λ c. by c (same_client k c) refl where
  by : (c : ClientId) (b : Bool) → same_client k c ≡ b → heard_last (heard_again k m heard) c ≡ moment_at (session_at new c)
  by c true s = subst (λ x. heard_last (heard_again k m heard) x ≡ moment_at (session_at new x)) (client_same k c s)
      (again_own k m heard (moment_at (session_at old k)) (t k) ∙ sym (moment_heard m (session_at old k))
      ∙ sym (ap moment_at (h.live k ∙ ap (λ b. cond b (heard_at m (session_at old k)) (session_at old k)) (client_itself k))))
  by c false s = again_other c k m heard s ∙ t c ∙ sym (ap moment_at (h.live c ∙ ap (λ b. cond b (heard_at m (session_at old k)) (session_at old c)) s))

pub hear_is : (k : ClientId) (m : ℕ) (old new : Index) → Hears k m old new → IsOrdered client_cmp old.places.live → IsOrdered client_cmp new.places.live → heard_in new ≡ heard_again k m (heard_in old)
hear_is k m old new h o p = heard_is (heard_again k m (heard_in old)) new (again_sorted k m (heard_in old) (heard_sorted old o)) p (hear_tells k m old new (heard_in old) h (heard_tells old))

-- ---- the first client that has a session open

pub first_heard : (heard : Heard) (c : ClientId) → first_client heard ≡ Some c → is_some (heard_last heard c) ≡ true
first_heard [] c h = absurd (cc h)
first_heard (e ∷ heard) c h =
    let is : e.0 ≡ c = ap (λ o. unwrap_or o c) h in
    ap (λ b. is_some (cond b (Some e.1) (find client_cmp c heard))) (same_by_cmp c e.0 ∙ ap (same_client c) is ∙ client_itself c)

pub none_heard : (heard : Heard) (c : ClientId) → first_client heard ≡ None → is_some (heard_last heard c) ≡ false
none_heard [] c h = refl
none_heard (e ∷ heard) c h = absurd (cc h)

-- ---- the commit

pub heard_done : (m : ℕ) (es : List Entry) (old new : Index) → IsOrdered client_cmp old.places.live → IsOrdered client_cmp new.places.live → Tells (heard_after_all m es (heard_in old)) new → heard_in new ≡ heard_after_all m es (heard_in old)
heard_done m es old new o p t = heard_is (heard_after_all m es (heard_in old)) new (sorted_after_all m es (heard_in old) (heard_sorted old o)) p t
