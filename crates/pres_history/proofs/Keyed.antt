-- Maps by client, in which the entry of one client is put, left out or changed.
use Rattle.std.proofs.Common.{refl, sym, ◌∙◌, ap, ◌≡◌, List, [], ◌∷◌, Bool, true, false, not, cond, Option, Some, None, Ordering, Less, Equal, Greater}
use Rattle.std.specs.Option.{option_map}
use Rattle.std.specs.Map.{lookup, AreApart, KeepsOthers}
use Rattle.std.specs.BTreeMap.{BTreeMap, get, is_at, Updates}
use Rattle.std.specs.Ordering.{is_eq}
use Rattle.std.specs.Cmp.{tied_itself}
use Rattle.std.specs.FinMap.Entries.{by_order, put, find-put, find-where_key}
use Rattle.std_collections.specs.Layout.BTreeMap.{with_entries}
use Rattle.pres_ids.specs.Ids.{ClientId, client_cmp, same_client}
use Rattle.pres_server.proofs.Clients.{client_same, client_sym, clients_total, clients_apart, same_by_cmp}
use Rattle.pres_server.specs.Sums.{changed}
use Rattle.pres_server.proofs.Keyed.{at_client, found, others, changed_found}
use Rattle.pres_server.specs.InternalSessions.{Session}
use Rattle.pres_server.proofs.Heard.{behind}

-- a test that no key equal to the client's passes
abbrev pub Passes : ClientId → (ClientId → Bool) → Type 0
Passes k other = AreApart (is_at (client_cmp k)) other

at_itself : (k : ClientId) → is_eq (client_cmp k k) ≡ true
at_itself k = ap is_eq (tied_itself clients_total k)

-- what is found at each client, and by other tests, is what an update says
updates : {X : Type 0} (k : ClientId) (w : Option X) (m : BTreeMap ClientId X) (es : List (ClientId × X)) → ((q : ClientId) → at_client q es ≡ cond (is_at (client_cmp k) q) w (at_client q m.entries))
    → ((other : ClientId → Bool) → Passes k other → lookup other es ≡ lookup other m.entries) → Updates client_cmp m (with_entries m es) k w
unfolding KeepsOthers
updates k w m es h g =
    (h, h k ∙ ap (λ b. cond b w (at_client k m.entries)) (at_itself k), (λ q no. h q ∙ ap (λ b. cond b w (at_client q m.entries)) no), (λ other key apart. g other apart))

put_found : {X : Type 0} (k : ClientId) (v : X) (es : List (ClientId × X)) (q : ClientId) → at_client q (put client_cmp k v es) ≡ cond (is_at (client_cmp k) q) (Some v) (at_client q es)
put_found k v es q =
    sym (found q (put client_cmp k v es))
    ∙ find-put client_cmp clients_total q k v es
    ∙ (λ i. cond ((same_by_cmp q k ∙ client_sym q k ∙ sym (same_by_cmp k q)) i) (Some v) (found q es i))

put_skips : {X : Type 0} (k : ClientId) (v : X) (other : ClientId → Bool) → Passes k other → (es : List (ClientId × X)) → lookup other (put client_cmp k v es) ≡ lookup other es
put_skips k v other apart [] = ap (λ b. cond b (Some v) None) (apart k (at_itself k))
put_skips k v other apart (e ∷ es) = by (client_cmp k e.0) refl (put_skips k v other apart es) where
  by : (o : Ordering) → client_cmp k e.0 ≡ o → lookup other (put client_cmp k v es) ≡ lookup other es
      → lookup other (by_order o ((k, v) ∷ e ∷ es) ((e.0, v) ∷ es) (e ∷ put client_cmp k v es)) ≡ cond (other e.0) (Some e.1) (lookup other es)
  by Less h r = ap (λ b. cond b (Some v) (cond (other e.0) (Some e.1) (lookup other es))) (apart k (at_itself k))
  by Equal h r = ap (λ b. cond b (Some v) (lookup other es)) (apart e.0 (ap is_eq h)) ∙ sym (ap (λ b. cond b (Some e.1) (lookup other es)) (apart e.0 (ap is_eq h)))
  by Greater h r = ap (cond (other e.0) (Some e.1)) r

pub updates_put : {X : Type 0} (k : ClientId) (v : X) (m : BTreeMap ClientId X) → Updates client_cmp m (with_entries m (put client_cmp k v m.entries)) k (Some v)
updates_put k v m = updates k (Some v) m (put client_cmp k v m.entries) (put_found k v m.entries) (λ other apart. put_skips k v other apart m.entries)

others_found : {X : Type 0} (k : ClientId) (es : List (ClientId × X)) (q : ClientId) → at_client q (others k es) ≡ cond (is_at (client_cmp k) q) None (at_client q es)
others_found {X} k es q =
    sym (found q (others k es))
    ∙ find-where_key client_cmp (λ client. not (same_client k client)) q (λ x e. ap (λ y. not (same_client k y)) (sym (clients_apart q x e))) es
    ∙ (λ i. cond (not (sym (same_by_cmp k q) i)) (found q es i) None)
    ∙ by (is_at (client_cmp k) q) where
      by : (b : Bool) → cond (not b) (at_client q es) None ≡ cond b None (at_client q es)
      by true = refl
      by false = refl

others_skip : {X : Type 0} (k : ClientId) (other : ClientId → Bool) → Passes k other → (es : List (ClientId × X)) → lookup other (others k es) ≡ lookup other es
others_skip k other apart [] = refl
others_skip k other apart (e ∷ es) = by (same_client k e.0) refl (others_skip k other apart es) where
  by : (b : Bool) → same_client k e.0 ≡ b → lookup other (others k es) ≡ lookup other es
      → lookup other (cond (not b) (e ∷ others k es) (others k es)) ≡ cond (other e.0) (Some e.1) (lookup other es)
  by true h r = r ∙ sym (ap (λ b. cond b (Some e.1) (lookup other es)) (apart e.0 (same_by_cmp k e.0 ∙ h)))
  by false h r = ap (cond (other e.0) (Some e.1)) r

pub updates_others : {X : Type 0} (k : ClientId) (m : BTreeMap ClientId X) → Updates client_cmp m (with_entries m (others k m.entries)) k None
updates_others k m = updates k None m (others k m.entries) (others_found k m.entries) (λ other apart. others_skip k other apart m.entries)

changed_at : {X : Type 0} (k : ClientId) (f : X → X) (es : List (ClientId × X)) (q : ClientId) → at_client q (changed k f es) ≡ cond (is_at (client_cmp k) q) (option_map f (at_client k es)) (at_client q es)
changed_at k f es q = changed_found k f es q ∙ by (same_client k q) refl where
  by : (b : Bool) → same_client k q ≡ b → cond b (option_map f (at_client q es)) (at_client q es) ≡ cond (is_at (client_cmp k) q) (option_map f (at_client k es)) (at_client q es)
  by true h =
      ap (λ x. option_map f (at_client x es)) (sym (client_same k q h))
      ∙ sym (ap (λ b. cond b (option_map f (at_client k es)) (at_client q es)) (same_by_cmp k q ∙ h))
  by false h = sym (ap (λ b. cond b (option_map f (at_client k es)) (at_client q es)) (same_by_cmp k q ∙ h))

changed_skips : {X : Type 0} (k : ClientId) (f : X → X) (other : ClientId → Bool) → Passes k other → (es : List (ClientId × X)) → lookup other (changed k f es) ≡ lookup other es
changed_skips k f other apart [] = refl
changed_skips k f other apart (e ∷ es) = by (same_client k e.0) refl (changed_skips k f other apart es) where
  by : (b : Bool) → same_client k e.0 ≡ b → lookup other (changed k f es) ≡ lookup other es
      → cond (other e.0) (Some (cond b (f e.1) e.1)) (lookup other (changed k f es)) ≡ cond (other e.0) (Some e.1) (lookup other es)
  by true h r =
      let n = apart e.0 (same_by_cmp k e.0 ∙ h) in
      (λ i. cond (n i) (Some (f e.1)) (r i)) ∙ sym (ap (λ b. cond b (Some e.1) (lookup other es)) n)
  by false h r = ap (cond (other e.0) (Some e.1)) r

pub updates_changed : {X : Type 0} (k : ClientId) (f : X → X) (m : BTreeMap ClientId X) → Updates client_cmp m (with_entries m (changed k f m.entries)) k (option_map f (get client_cmp m k))
updates_changed k f m = updates k (option_map f (get client_cmp m k)) m (changed k f m.entries) (changed_at k f m.entries) (λ other apart. changed_skips k f other apart m.entries)

-- ---- the same of each session, as something else

abbrev pub each : {X : Type 0} → (Session → X) → List (ClientId × Session) → List (ClientId × X)
each g es = behind (λ _ session. g session) es

pub each_put : {X : Type 0} (g : Session → X) (k : ClientId) (v : Session) (es : List (ClientId × Session)) → each g (put client_cmp k v es) ≡ put client_cmp k (g v) (each g es)
each_put g k v [] = refl
each_put g k v (e ∷ es) = by (client_cmp k e.0) (each_put g k v es) where
  by : (o : Ordering) → each g (put client_cmp k v es) ≡ put client_cmp k (g v) (each g es)
      → each g (by_order o ((k, v) ∷ e ∷ es) ((e.0, v) ∷ es) (e ∷ put client_cmp k v es))
      ≡ by_order o ((k, g v) ∷ (e.0, g e.1) ∷ each g es) ((e.0, g v) ∷ each g es) ((e.0, g e.1) ∷ put client_cmp k (g v) (each g es))
  by Less r = refl
  by Equal r = refl
  by Greater r = ap (λ l. (e.0, g e.1) ∷ l) r

pub each_others : {X : Type 0} (g : Session → X) (k : ClientId) (es : List (ClientId × Session)) → each g (others k es) ≡ others k (each g es)
each_others g k [] = refl
each_others g k (e ∷ es) = by (not (same_client k e.0)) (each_others g k es) where
  by : (b : Bool) → each g (others k es) ≡ others k (each g es) → each g (cond b (e ∷ others k es) (others k es)) ≡ cond b ((e.0, g e.1) ∷ others k (each g es)) (others k (each g es))
  by true r = ap (λ l. (e.0, g e.1) ∷ l) r
  by false r = r

pub each_changed : {X : Type 0} (g : Session → X) (k : ClientId) (f : Session → Session) (h : X → X) → ((session : Session) → g (f session) ≡ h (g session)) → (es : List (ClientId × Session))
    → each g (changed k f es) ≡ changed k h (each g es)
each_changed g k f h same [] = refl
each_changed g k f h same (e ∷ es) = λ i. (e.0, by (same_client k e.0) i) ∷ each_changed g k f h same es i where
  by : (b : Bool) → g (cond b (f e.1) e.1) ≡ cond b (h (g e.1)) (g e.1)
  by true = same e.1
  by false = refl
