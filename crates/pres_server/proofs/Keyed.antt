-- Lists of entries by client, in which the entry of one client is put, left out or changed.
use Rattle.std.proofs.Common.{refl, sym, ◌∙◌, ap, subst, ◌≡◌, ◌+◌, ◌-◌, List, [], ◌∷◌, length, filter, Bool, true, false, not, cond, ◌&&◌, T, arith, Option, Some, None, is_some, Ordering, Less, Equal, Greater}
use Rattle.std.specs.List.{AllByRecursion}
use Rattle.std.specs.Option.{option_map}
use Rattle.std.specs.Map.{lookup, keys_of}
use Rattle.std.specs.BTreeMap.{is_at}
use Rattle.std.specs.BTreeSet.{insert_key}
use Rattle.std.specs.List.Sorted.{IsStrictlySortedBy}
use Rattle.std.specs.Ordering.{is_lt, is_eq, match_ordering}
use Rattle.std.specs.FinMap.Entries.{by_order, find, put, where_key, is_sorted, below_all, find-put, find-where_key, length-put, length_without}
use Rattle.std.proofs.lemmas.List.{length-map}
use Rattle.std.proofs.lemmas.List.Kept.{IsStrictlySortedBy-filter}
use Rattle.std.proofs.lemmas.Map.Keys.{sorted_head, sorted_tail}
use Rattle.pres_ids.specs.Ids.{ClientId, client_cmp, same_client}
use Rattle.pres_server.proofs.Clients.{client_same, client_sym, clients_total, clients_apart, same_by_cmp}
use Rattle.pres_server.proofs.Sorted.{sorted_put}
use Rattle.pres_server.specs.Sums.{changed}

-- the value of the client
abbrev pub at_client : {X : Type 0} → ClientId → List (ClientId × X) → Option X
at_client client es = lookup (is_at (client_cmp client)) es

pub found : {X : Type 0} (c : ClientId) (es : List (ClientId × X)) → find client_cmp c es ≡ at_client c es
found c [] = refl
found c (e ∷ es) = ap (cond (is_eq (client_cmp c e.0)) (Some e.1)) (found c es)

-- ---- an entry that is put

keys_put : {X : Type 0} (k : ClientId) (v : X) (es : List (ClientId × X)) → keys_of (put client_cmp k v es) ≡ insert_key client_cmp (keys_of es) k
keys_put k v [] = refl
keys_put k v (e ∷ es) = by (client_cmp k e.0) (keys_put k v es) where
  by : (o : Ordering) → keys_of (put client_cmp k v es) ≡ insert_key client_cmp (keys_of es) k
      → keys_of (by_order o ((k, v) ∷ e ∷ es) ((e.0, v) ∷ es) (e ∷ put client_cmp k v es)) ≡ match_ordering o (k ∷ e.0 ∷ keys_of es) (e.0 ∷ keys_of es) (e.0 ∷ insert_key client_cmp (keys_of es) k)
  by Less r = refl
  by Equal r = refl
  by Greater r = ap (λ l. e.0 ∷ l) r

pub sorted_with : {X : Type 0} (k : ClientId) (v : X) (es : List (ClientId × X)) → IsStrictlySortedBy client_cmp (keys_of es) → IsStrictlySortedBy client_cmp (keys_of (put client_cmp k v es))
sorted_with k v es h = subst (IsStrictlySortedBy client_cmp) (sym (keys_put k v es)) (sorted_put client_cmp clients_total k (keys_of es) h)

-- ---- an entry that is left out

-- the entries of the other clients
abbrev pub others : {X : Type 0} → ClientId → List (ClientId × X) → List (ClientId × X)
others k es = where_key client_cmp (λ client. not (same_client k client)) es

pub keys_others : {X : Type 0} (k : ClientId) (es : List (ClientId × X)) → keys_of (others k es) ≡ filter (λ client. not (same_client k client)) (keys_of es)
keys_others k [] = refl
keys_others k (e ∷ es) = by (not (same_client k e.0)) (keys_others k es) where
  kept : List ClientId
  kept = filter (λ client. not (same_client k client)) (keys_of es)

  by : (b : Bool) → keys_of (others k es) ≡ kept → keys_of (cond b (e ∷ others k es) (others k es)) ≡ cond b (e.0 ∷ kept) kept
  by true r = ap (λ l. e.0 ∷ l) r
  by false r = r

pub sorted_others : {X : Type 0} (k : ClientId) (es : List (ClientId × X)) → IsStrictlySortedBy client_cmp (keys_of es) → IsStrictlySortedBy client_cmp (keys_of (others k es))
sorted_others k es h = subst (IsStrictlySortedBy client_cmp) (sym (keys_others k es)) (IsStrictlySortedBy-filter client_cmp (λ client. not (same_client k client)) (keys_of es) h)

-- ---- an entry that is changed

pub changed_found : {X : Type 0} (k : ClientId) (f : X → X) (es : List (ClientId × X)) (q : ClientId) → at_client q (changed k f es) ≡ cond (same_client k q) (option_map f (at_client q es)) (at_client q es)
changed_found {X} k f [] q = by (same_client k q) where
  by : (b : Bool) → None ≡ cond {A = Option X} b None None
  by true = refl
  by false = refl
changed_found {X} k f (e ∷ es) q = by (is_eq (client_cmp q e.0)) refl (changed_found k f es q) where
  here : (b : Bool) → Some (cond b (f e.1) e.1) ≡ cond b (Some (f e.1)) (Some e.1)
  here true = refl
  here false = refl

  by : (b : Bool) → is_eq (client_cmp q e.0) ≡ b → at_client q (changed k f es) ≡ cond (same_client k q) (option_map f (at_client q es)) (at_client q es)
      → cond b (Some (cond (same_client k e.0) (f e.1) e.1)) (at_client q (changed k f es))
      ≡ cond (same_client k q) (option_map f (cond b (Some e.1) (at_client q es))) (cond b (Some e.1) (at_client q es))
  by true h r = ap (λ x. Some (cond (same_client k x) (f e.1) e.1)) (sym (client_same q e.0 (sym (same_by_cmp q e.0) ∙ h))) ∙ here (same_client k q)
  by false h r = r

keys_changed : {X : Type 0} (k : ClientId) (f : X → X) (es : List (ClientId × X)) → keys_of (changed k f es) ≡ keys_of es
keys_changed k f [] = refl
keys_changed k f (e ∷ es) = ap (λ l. e.0 ∷ l) (keys_changed k f es)

pub sorted_changed : {X : Type 0} (k : ClientId) (f : X → X) (es : List (ClientId × X)) → IsStrictlySortedBy client_cmp (keys_of es) → IsStrictlySortedBy client_cmp (keys_of (changed k f es))
sorted_changed k f es h = subst (IsStrictlySortedBy client_cmp) (sym (keys_changed k f es)) h

-- ---- what is found, and how many there are

pub find_put : {X : Type 0} (k : ClientId) (v : X) (es : List (ClientId × X)) (q : ClientId) → find client_cmp q (put client_cmp k v es) ≡ cond (same_client k q) (Some v) (find client_cmp q es)
find_put k v es q = find-put client_cmp clients_total q k v es ∙ ap (λ b. cond b (Some v) (find client_cmp q es)) (same_by_cmp q k ∙ client_sym q k)

pub find_others : {X : Type 0} (k : ClientId) (es : List (ClientId × X)) (q : ClientId) → find client_cmp q (others k es) ≡ cond (same_client k q) None (find client_cmp q es)
find_others {X} k es q =
    find-where_key client_cmp (λ client. not (same_client k client)) q (λ x e. ap (λ y. not (same_client k y)) (sym (clients_apart q x e))) es
    ∙ by (same_client k q) where
      by : (b : Bool) → cond (not b) (find client_cmp q es) None ≡ cond b None (find client_cmp q es)
      by true = refl
      by false = refl

pub find_changed : {X : Type 0} (k : ClientId) (f : X → X) (es : List (ClientId × X)) (q : ClientId) → find client_cmp q (changed k f es) ≡ cond (same_client k q) (option_map f (find client_cmp q es)) (find client_cmp q es)
find_changed k f es q = found q (changed k f es) ∙ changed_found k f es q ∙ sym (ap (λ o. cond (same_client k q) (option_map f o) o) (found q es))

below_keys : {X : Type 0} (c : ClientId) (es : List (ClientId × X)) → AllByRecursion (λ k. client_cmp c k ≡ Less) (keys_of es) → T (below_all client_cmp c es)
below_keys c [] h = tt
below_keys c (e ∷ es) h = subst (λ o. T (is_lt o && below_all client_cmp c es)) (sym h.0) (below_keys c es h.1)

-- the order as a test
pub in_order : {X : Type 0} (es : List (ClientId × X)) → IsStrictlySortedBy client_cmp (keys_of es) → T (is_sorted client_cmp es)
in_order [] h = tt
in_order (e ∷ es) h = both _ _ (below_keys e.0 es (sorted_head client_cmp e.0 (keys_of es) h)) (in_order es (sorted_tail client_cmp e.0 (keys_of es) h)) where
  both : (a c : Bool) → T a → T c → T (a && c)
  both true c p q = q
  both false c p q = p

pub length_put : {X : Type 0} (k : ClientId) (v : X) (es : List (ClientId × X)) → IsStrictlySortedBy client_cmp (keys_of es) → find client_cmp k es ≡ None → length (put client_cmp k v es) ≡ length es + 1
length_put k v es h none =
    length-put client_cmp clients_total k v es (in_order es h)
    ∙ ap (λ o. cond (is_some o) (length es) (length es + 1)) none

pub length_others : {X : Type 0} (k : ClientId) (v : X) (es : List (ClientId × X)) → IsStrictlySortedBy client_cmp (keys_of es) → find client_cmp k es ≡ Some v → length (others k es) ≡ length es - 1
length_others k v es h some =
    let rest : 1 + length (others k es) ≡ length es =
    ap (λ o. cond (is_some o) 1 0 + length (others k es)) (sym some)
    ∙ (λ i. cond (is_some (find client_cmp k es)) 1 0 + length (where_key client_cmp (λ x. not (sym (same_by_cmp k x) i)) es))
    ∙ length_without client_cmp clients_total k es (in_order es h) in
    omega arith

pub length_changed : {X : Type 0} (k : ClientId) (f : X → X) (es : List (ClientId × X)) → length (changed k f es) ≡ length es
length_changed {X} k f es = length-map es (λ (e : ClientId × X). (e.0, cond (same_client k e.0) (f e.1) e.1))
