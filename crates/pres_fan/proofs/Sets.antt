-- The paths of each session, in a map, and the list of listeners that they are.
use Rattle.std.proofs.Common.{refl, sym, ◌∙◌, ap, subst, ◌≡◌, List, [], ◌∷◌, ◌++◌, map, filter, Bool, true, false, not, cond, ◌||◌, ◌&&◌, Option, Some, None, Less, is_eq}
use Rattle.std.specs.List.{list_any, All, AllByRecursion}
use Rattle.std.specs.List.Sorted.{IsStrictlySortedBy}
use Rattle.std.specs.Map.{keys_of, values_of, lookup, set_value, remove_entry}
use Rattle.std.specs.BTreeMap.{is_at, insert_entry}
use Rattle.std.specs.BTreeSet.{BTreeSet, insert_key}
use Rattle.std.specs.Cmp.{tied_itself, both_ways}
use Rattle.std.specs.Ordering.{ordering_then}
use Rattle.std.proofs.Math.Bool.{or-false}
use Rattle.std.proofs.lemmas.List.{append-nil, map-append}
use Rattle.std.proofs.lemmas.List.Elements.{All-head, All-tail, filter-append}
use Rattle.std.proofs.lemmas.List.Folds.{list_any-append}
use Rattle.std.proofs.lemmas.List.Kept.{IsStrictlySortedBy-filter}
use Rattle.std.proofs.lemmas.Map.Keys.{sorted_head, sorted_tail}
use Rattle.std.proofs.lemmas.Map.Views.{All-values-set_value, All-values-insert_entry, All-map-remove_entry}
use Rattle.pres_tree.specs.Paths.{Path, path_cmp, same_path}
use Rattle.pres_tree.proofs.PathOrder.{same_by_cmp as same_path_by_cmp}
use Rattle.pres_ids.specs.Ids.{same_session}
use Rattle.pres_ids.specs.declared.id.SessionId.{SessionId}
use Rattle.pres_fan.specs.declared.listeners.Listener.{Listener}
use Rattle.pres_fan.specs.Listeners.{session_cmp, listener_cmp, same_listener, listener_of, paths_of, with_listener, without, without_session}
use Rattle.pres_fan.specs.Sets.{Sets, keys_in, listeners_in, AreInOrder}
use Rattle.pres_fan.proofs.Orders.{session_total, session_same, same_by_cmp, listener_total, listener_apart, listener_same, listener_itself}
use Rattle.pres_fan.proofs.Lists.{all_then, any_with, put_rises, any_filtered}
use Rattle.pres_fan.proofs.Members.{same_members, none_ordered}

-- ---- what is found for a session

-- whether the path is among them
abbrev pub in_found : Option (BTreeSet Path) → Path → Bool
in_found None p = false
in_found (Some paths) p = list_any (is_at (path_cmp p)) paths.keys

abbrev pub found : SessionId → Sets → Option (BTreeSet Path)
found s es = lookup (is_at (session_cmp s)) es

none_found : (s : SessionId) (es : Sets) → AllByRecursion (λ k. session_cmp s k ≡ Less) (keys_of es) → found s es ≡ None
none_found s [] a = refl
none_found s (e ∷ es) a = ap (λ o. cond (is_eq o) (Some e.1) (found s es)) a.0 ∙ none_found s es a.1

none_behind : (s : SessionId) (e : SessionId × BTreeSet Path) (es : Sets) → IsStrictlySortedBy session_cmp (keys_of (e ∷ es)) → same_session s e.0 ≡ true → found s es ≡ None
none_behind s e es o t = subst (λ u. found u es ≡ None) (sym (session_same s e.0 t)) (none_found e.0 es (sorted_head session_cmp e.0 (keys_of es) o))

-- ---- the members of the list

block_has : (b : Bool) (l : Listener) (s : SessionId) → same_session l.session s ≡ b → (ps : List Path) → list_any (same_listener l) (map (listener_of s) ps) ≡ (b && list_any (same_path l.path) ps)
block_has true l s e [] = refl
block_has true l s e (p ∷ ps) = λ i. (e i && same_path l.path p) || block_has true l s e ps i
block_has false l s e [] = refl
block_has false l s e (p ∷ ps) = λ i. (e i && same_path l.path p) || block_has false l s e ps i

pub member : (l : Listener) (es : Sets) → IsStrictlySortedBy session_cmp (keys_of es) → list_any (same_listener l) (listeners_in es) ≡ in_found (found l.session es) l.path
member l [] o = refl
member l (e ∷ es) o = list_any-append (same_listener l) (map (listener_of e.0) e.1.keys) (listeners_in es) ∙ by (same_session l.session e.0) refl (member l es (sorted_tail session_cmp e.0 (keys_of es) o)) where
  rest : Bool
  rest = list_any (same_listener l) (listeners_in es)

  here : (b : Bool) → same_session l.session e.0 ≡ b → in_found (cond b (Some e.1) (found l.session es)) l.path ≡ in_found (found l.session (e ∷ es)) l.path
  here b t = sym (ap (λ c. in_found (cond c (Some e.1) (found l.session es)) l.path) (same_by_cmp l.session e.0 ∙ t))

  by : (b : Bool) → same_session l.session e.0 ≡ b → rest ≡ in_found (found l.session es) l.path → (list_any (same_listener l) (map (listener_of e.0) e.1.keys) || rest) ≡ in_found (found l.session (e ∷ es)) l.path
  by true t h =
      (λ i. block_has true l e.0 t e.1.keys i || (h ∙ ap (λ x. in_found x l.path) (none_behind l.session e es o t)) i)
      ∙ or-false (list_any (same_path l.path) e.1.keys)
      ∙ (λ i. list_any (λ q. same_path_by_cmp l.path q i) e.1.keys)
      ∙ here true t
  by false t h = (λ i. block_has false l e.0 t e.1.keys i || h i) ∙ here false t

-- ---- the paths of a session

block_paths : (b : Bool) (s t : SessionId) → same_session s t ≡ b → (ps : List Path) → paths_of s (map (listener_of t) ps) ≡ cond b ps []
block_paths true s t e [] = refl
block_paths true s t e (p ∷ ps) =
    ap (λ b. map (λ l. l.path) (cond b (listener_of t p ∷ filter (λ l. same_session s l.session) (map (listener_of t) ps)) (filter (λ l. same_session s l.session) (map (listener_of t) ps)))) e
    ∙ ap (λ l. p ∷ l) (block_paths true s t e ps)
block_paths false s t e [] = refl
block_paths false s t e (p ∷ ps) =
    ap (λ b. map (λ l. l.path) (cond b (listener_of t p ∷ filter (λ l. same_session s l.session) (map (listener_of t) ps)) (filter (λ l. same_session s l.session) (map (listener_of t) ps)))) e
    ∙ block_paths false s t e ps

paths_append : (s : SessionId) (ls ms : List Listener) → paths_of s (ls ++ ms) ≡ paths_of s ls ++ paths_of s ms
paths_append s ls ms =
    ap (map (λ l. l.path)) (filter-append (λ l. same_session s l.session) ls ms)
    ∙ map-append (λ l. l.path) (filter (λ l. same_session s l.session) ls) (filter (λ l. same_session s l.session) ms)

pub own_paths : (s : SessionId) (es : Sets) → IsStrictlySortedBy session_cmp (keys_of es) → paths_of s (listeners_in es) ≡ keys_in (found s es)
own_paths s [] o = refl
own_paths s (e ∷ es) o = paths_append s (map (listener_of e.0) e.1.keys) (listeners_in es) ∙ by (same_session s e.0) refl (own_paths s es (sorted_tail session_cmp e.0 (keys_of es) o)) where
  here : (b : Bool) → same_session s e.0 ≡ b → keys_in (cond b (Some e.1) (found s es)) ≡ keys_in (found s (e ∷ es))
  here b t = sym (ap (λ c. keys_in (cond c (Some e.1) (found s es))) (same_by_cmp s e.0 ∙ t))

  by : (b : Bool) → same_session s e.0 ≡ b → paths_of s (listeners_in es) ≡ keys_in (found s es) → paths_of s (map (listener_of e.0) e.1.keys) ++ paths_of s (listeners_in es) ≡ keys_in (found s (e ∷ es))
  by true t h =
      (λ i. block_paths true s e.0 t e.1.keys i ++ (h ∙ ap keys_in (none_behind s e es o t)) i)
      ∙ append-nil e.1.keys
      ∙ here true t
  by false t h = (λ i. block_paths false s e.0 t e.1.keys i ++ h i) ∙ here false t

-- ---- the list is in order

all_append : {A : Type 0} (P : A → Type 0) (xs ys : List A) → AllByRecursion P xs → AllByRecursion P ys → AllByRecursion P (xs ++ ys)
all_append P [] ys a b = b
all_append P (x ∷ xs) ys a b = (a.0, all_append P xs ys a.1 b)

block_ordered : (s : SessionId) (ps : List Path) → IsStrictlySortedBy path_cmp ps → IsStrictlySortedBy listener_cmp (map (listener_of s) ps)
unfolding IsStrictlySortedBy
block_ordered s [] o = tt
block_ordered s (p ∷ ps) o = (above ps (sorted_head path_cmp p ps o), block_ordered s ps (sorted_tail path_cmp p ps o)) where
  above : (qs : List Path) → AllByRecursion (λ q. path_cmp p q ≡ Less) qs → AllByRecursion (λ m. listener_cmp (listener_of s p) m ≡ Less) (map (listener_of s) qs)
  above [] a = tt
  above (q ∷ qs) a = (ap (λ o. ordering_then o (path_cmp p q)) (tied_itself session_total s) ∙ a.0, above qs a.1)

append_ordered : (xs ys : List Listener) → IsStrictlySortedBy listener_cmp xs → IsStrictlySortedBy listener_cmp ys → AllByRecursion (λ x. AllByRecursion (λ y. listener_cmp x y ≡ Less) ys) xs → IsStrictlySortedBy listener_cmp (xs ++ ys)
unfolding IsStrictlySortedBy
append_ordered [] ys o u a = u
append_ordered (x ∷ xs) ys o u a =
    (all_append (λ y. listener_cmp x y ≡ Less) xs ys (sorted_head listener_cmp x xs o) a.0, append_ordered xs ys (sorted_tail listener_cmp x xs o) u a.1)

all_of_sessions : (P : SessionId → Type 0) (es : Sets) → AllByRecursion P (keys_of es) → AllByRecursion (λ l. P l.session) (listeners_in es)
all_of_sessions P [] a = tt
all_of_sessions P (e ∷ es) a = all_append (λ l. P l.session) (map (listener_of e.0) e.1.keys) (listeners_in es) (each e.1.keys) (all_of_sessions P es a.1) where
  each : (ps : List Path) → AllByRecursion (λ l. P l.session) (map (listener_of e.0) ps)
  each [] = tt
  each (p ∷ ps) = (a.0, each ps)

pub in_order : (es : Sets) → AreInOrder es → IsStrictlySortedBy listener_cmp (listeners_in es)
in_order [] o = none_ordered
in_order (e ∷ es) o =
    append_ordered (map (listener_of e.0) e.1.keys) (listeners_in es) (block_ordered e.0 e.1.keys (All-head (λ paths. IsStrictlySortedBy path_cmp paths.keys) e.1 (values_of es) o.1))
    (in_order es (sorted_tail session_cmp e.0 (keys_of es) o.0, All-tail (λ paths. IsStrictlySortedBy path_cmp paths.keys) e.1 (values_of es) o.1)) (cross e.1.keys)
  where
    later : AllByRecursion (λ l. session_cmp e.0 l.session ≡ Less) (listeners_in es)
    later = all_of_sessions (λ s. session_cmp e.0 s ≡ Less) es (sorted_head session_cmp e.0 (keys_of es) o.0)

    cross : (ps : List Path) → AllByRecursion (λ x. AllByRecursion (λ y. listener_cmp x y ≡ Less) (listeners_in es)) (map (listener_of e.0) ps)
    cross [] = tt
    cross (p ∷ ps) = (all_then (λ l. session_cmp e.0 l.session ≡ Less) (λ y. listener_cmp (listener_of e.0 p) y ≡ Less) (λ y h. ap (λ o. ordering_then o (path_cmp p y.path)) h) (listeners_in es) later, cross ps)

-- ---- a listener more, and listeners less

same_flip : (k l : Listener) → same_listener l k ≡ same_listener k l
same_flip k l = both_ways _ _ (one l k) (one k l) where
  one : (k l : Listener) → same_listener k l ≡ true → same_listener l k ≡ true
  one k l e = ap (λ m. same_listener m k) (sym (listener_same k l e)) ∙ listener_itself k

pub any_put : (k l : Listener) (ls : List Listener) → list_any (same_listener l) (insert_key listener_cmp ls k) ≡ (same_listener k l || list_any (same_listener l) ls)
any_put k l ls =
    any_with listener_cmp k (same_listener l) (λ m t e. ap (same_listener l) (sym (listener_apart k m t)) ∙ e) ls
    ∙ ap (λ b. b || list_any (same_listener l) ls) (same_flip k l)

pub any_filter : (p : Listener → Bool) (l : Listener) (ls : List Listener) → list_any (same_listener l) (filter p ls) ≡ (p l && list_any (same_listener l) ls)
any_filter p l ls = any_filtered (same_listener l) p (p l) (λ m e. ap p (sym (listener_same l m e))) ls

pub put_ordered : (k : Listener) (ls : List Listener) → IsStrictlySortedBy listener_cmp ls → IsStrictlySortedBy listener_cmp (insert_key listener_cmp ls k)
put_ordered k ls o = put_rises listener_cmp listener_total k ls o

-- ---- a change of what one session is found with

abbrev SetsOne : SessionId → Option (BTreeSet Path) → Sets → Sets → Type 0
SetsOne s w es new = (q : SessionId) → found q new ≡ cond (is_at (session_cmp s) q) w (found q es)

same_by : (xs ys : List Listener) → IsStrictlySortedBy listener_cmp xs → IsStrictlySortedBy listener_cmp ys → ((l : Listener) → list_any (same_listener l) xs ≡ list_any (same_listener l) ys) → xs ≡ ys
same_by xs ys o u same = same_members xs ys o u (λ l h. sym (same l) ∙ h) (λ l h. same l ∙ h)

-- whom the list has after the change
changed : (s : SessionId) (w : Option (BTreeSet Path)) (es new : Sets) → IsStrictlySortedBy session_cmp (keys_of es) → IsStrictlySortedBy session_cmp (keys_of new) → SetsOne s w es new → (l : Listener) →
    list_any (same_listener l) (listeners_in new) ≡ cond (same_session s l.session) (in_found w l.path) (list_any (same_listener l) (listeners_in es))
changed s w es new o u one l = member l new u ∙ ap (λ x. in_found x l.path) (one l.session) ∙ by (same_session s l.session) refl where
  by : (b : Bool) → same_session s l.session ≡ b → in_found (cond (is_at (session_cmp s) l.session) w (found l.session es)) l.path ≡ cond b (in_found w l.path) (list_any (same_listener l) (listeners_in es))
  by true e = ap (λ c. in_found (cond c w (found l.session es)) l.path) (same_by_cmp s l.session ∙ e)
  by false e = ap (λ c. in_found (cond c w (found l.session es)) l.path) (same_by_cmp s l.session ∙ e) ∙ sym (member l es o)

own_member : (s : SessionId) (es : Sets) → IsStrictlySortedBy session_cmp (keys_of es) → (l : Listener) → same_session s l.session ≡ true → in_found (found s es) l.path ≡ list_any (same_listener l) (listeners_in es)
own_member s es o l e = ap (λ t. in_found (found t es) l.path) (session_same s l.session e) ∙ sym (member l es o)

pub with_path : (s : SessionId) (p : Path) (w : BTreeSet Path) (es new : Sets) → AreInOrder es → AreInOrder new → SetsOne s (Some w) es new →
    ((q : Path) → list_any (is_at (path_cmp q)) w.keys ≡ cond (is_at (path_cmp p) q) true (in_found (found s es) q)) → listeners_in new ≡ with_listener s p (listeners_in es)
with_path s p w es new o u one has = same_by (listeners_in new) (with_listener s p (listeners_in es)) (in_order new u) (put_ordered (listener_of s p) (listeners_in es) (in_order es o)) each where
  or_is : (b c : Bool) → cond b true c ≡ (b || c)
  or_is true c = refl
  or_is false c = refl

  each : (l : Listener) → list_any (same_listener l) (listeners_in new) ≡ list_any (same_listener l) (with_listener s p (listeners_in es))
  each l = changed s (Some w) es new o.0 u.0 one l ∙ by (same_session s l.session) refl ∙ sym (any_put (listener_of s p) l (listeners_in es)) where
    old : Bool
    old = list_any (same_listener l) (listeners_in es)

    by : (b : Bool) → same_session s l.session ≡ b → cond b (in_found (Some w) l.path) old ≡ ((same_session s l.session && same_path p l.path) || old)
    by true e =
        has l.path ∙ (λ i. cond (sym (same_path_by_cmp p l.path) i) true (own_member s es o.0 l e i)) ∙ or_is (same_path p l.path) old
        ∙ sym (ap (λ b. (b && same_path p l.path) || old) e)
    by false e = sym (ap (λ b. (b && same_path p l.path) || old) e)

pub without_path : (s : SessionId) (p : Path) (w : BTreeSet Path) (es new : Sets) → AreInOrder es → AreInOrder new → SetsOne s (Some w) es new →
    ((q : Path) → list_any (is_at (path_cmp q)) w.keys ≡ cond (is_at (path_cmp p) q) false (in_found (found s es) q)) → listeners_in new ≡ without s p (listeners_in es)
without_path s p w es new o u one has =
    same_by (listeners_in new) (without s p (listeners_in es)) (in_order new u) (IsStrictlySortedBy-filter listener_cmp (λ l. not (same_listener (listener_of s p) l)) (listeners_in es) (in_order es o)) each
  where
    and_is : (b c : Bool) → cond b false c ≡ (not b && c)
    and_is true c = refl
    and_is false c = refl

    each : (l : Listener) → list_any (same_listener l) (listeners_in new) ≡ list_any (same_listener l) (without s p (listeners_in es))
    each l = changed s (Some w) es new o.0 u.0 one l ∙ by (same_session s l.session) refl ∙ sym (any_filter (λ m. not (same_listener (listener_of s p) m)) l (listeners_in es)) where
      old : Bool
      old = list_any (same_listener l) (listeners_in es)

      by : (b : Bool) → same_session s l.session ≡ b → cond b (in_found (Some w) l.path) old ≡ (not (same_session s l.session && same_path p l.path) && old)
      by true e =
          has l.path ∙ (λ i. cond (sym (same_path_by_cmp p l.path) i) false (own_member s es o.0 l e i)) ∙ and_is (same_path p l.path) old
          ∙ sym (ap (λ b. not (b && same_path p l.path) && old) e)
      by false e = sym (ap (λ b. not (b && same_path p l.path) && old) e)

pub without_paths : (s : SessionId) (es new : Sets) → AreInOrder es → AreInOrder new → SetsOne s None es new → listeners_in new ≡ without_session s (listeners_in es)
without_paths s es new o u one =
    same_by (listeners_in new) (without_session s (listeners_in es)) (in_order new u) (IsStrictlySortedBy-filter listener_cmp (λ l. not (same_session s l.session)) (listeners_in es) (in_order es o)) each
  where
    and_is : (b c : Bool) → cond b false c ≡ (not b && c)
    and_is true c = refl
    and_is false c = refl

    each : (l : Listener) → list_any (same_listener l) (listeners_in new) ≡ list_any (same_listener l) (without_session s (listeners_in es))
    each l = changed s None es new o.0 u.0 one l ∙ and_is (same_session s l.session) (list_any (same_listener l) (listeners_in es)) ∙ sym (any_filter (λ m. not (same_session s m.session)) l (listeners_in es))

-- a session that is not in the map listens to nothing
pub no_path : (s : SessionId) (p : Path) (es : Sets) → AreInOrder es → found s es ≡ None → listeners_in es ≡ without s p (listeners_in es)
no_path s p es o none =
    same_by (listeners_in es) (without s p (listeners_in es)) (in_order es o) (IsStrictlySortedBy-filter listener_cmp (λ l. not (same_listener (listener_of s p) l)) (listeners_in es) (in_order es o)) each
  where
    each : (l : Listener) → list_any (same_listener l) (listeners_in es) ≡ list_any (same_listener l) (without s p (listeners_in es))
    each l = by (same_session s l.session) refl ∙ sym (any_filter (λ m. not (same_listener (listener_of s p) m)) l (listeners_in es)) where
      old : Bool
      old = list_any (same_listener l) (listeners_in es)

      out : (b : Bool) → old ≡ false → old ≡ (not b && old)
      out b e = e ∙ sym (by_bool b) where
        by_bool : (b : Bool) → (not b && old) ≡ false
        by_bool true = refl
        by_bool false = e

      by : (b : Bool) → same_session s l.session ≡ b → old ≡ (not (same_session s l.session && same_path p l.path) && old)
      by true e = out (same_session s l.session && same_path p l.path) (sym (own_member s es o.0 l e) ∙ ap (λ x. in_found x l.path) none)
      by false e = sym (ap (λ b. not (b && same_path p l.path) && old) e)

-- what is found for the session has the paths that were there
pub same_paths : (s : SessionId) (w : BTreeSet Path) (es new : Sets) → AreInOrder es → AreInOrder new → SetsOne s (Some w) es new →
    ((q : Path) → list_any (is_at (path_cmp q)) w.keys ≡ in_found (found s es) q) → listeners_in new ≡ listeners_in es
same_paths s w es new o u one has = same_by (listeners_in new) (listeners_in es) (in_order new u) (in_order es o) each where
  each : (l : Listener) → list_any (same_listener l) (listeners_in new) ≡ list_any (same_listener l) (listeners_in es)
  each l = changed s (Some w) es new o.0 u.0 one l ∙ by (same_session s l.session) refl where
    by : (b : Bool) → same_session s l.session ≡ b → cond b (in_found (Some w) l.path) (list_any (same_listener l) (listeners_in es)) ≡ list_any (same_listener l) (listeners_in es)
    by true e = has l.path ∙ own_member s es o.0 l e
    by false e = refl

-- ---- sessions and paths stay in order

abbrev IsInOrder : BTreeSet Path → Type 0
IsInOrder paths = IsStrictlySortedBy path_cmp paths.keys

pub set_in_order : (s : SessionId) (w : BTreeSet Path) (es new : Sets) → AreInOrder es → IsStrictlySortedBy path_cmp w.keys → IsStrictlySortedBy session_cmp (keys_of new) → new ≡ set_value (is_at (session_cmp s)) es w → AreInOrder new
set_in_order s w es new o one sorted is = (sorted, subst (λ (fs : Sets). All IsInOrder (values_of fs)) (sym is) (All-values-set_value (is_at (session_cmp s)) IsInOrder es w o.1 one))

pub put_in_order : (s : SessionId) (w : BTreeSet Path) (es new : Sets) → AreInOrder es → IsStrictlySortedBy path_cmp w.keys → IsStrictlySortedBy session_cmp (keys_of new) → new ≡ insert_entry session_cmp es s w → AreInOrder new
put_in_order s w es new o one sorted is = (sorted, subst (λ (fs : Sets). All IsInOrder (values_of fs)) (sym is) (All-values-insert_entry session_cmp s w IsInOrder es o.1 one))

pub rest_in_order : (s : SessionId) (es new : Sets) → AreInOrder es → IsStrictlySortedBy session_cmp (keys_of new) → new ≡ remove_entry (is_at (session_cmp s)) es → AreInOrder new
rest_in_order s es new o sorted is = (sorted, subst (λ (fs : Sets). All IsInOrder (values_of fs)) (sym is) (All-map-remove_entry (is_at (session_cmp s)) (λ e. e.1) IsInOrder es o.1))
