-- What streams tell is what the tree holds.
use Rattle.std.proofs.Common.{refl, sym, ◌∙◌, ap, subst, ◌≡◌, ℕ, ◌+◌, zero, suc, List, [], ◌∷◌, ◌++◌, map, length, take, fold, filter, filter_map, Bool, true, false, not, cond, ◌||◌, ◌&&◌, ◌⊎◌, inl, inr, Option, Some, None, unwrap_or, append_assoc, append-nil, true≢false, Ordering, Less, Equal, Greater}
use Rattle.std.specs.List.{list_any, last_or, cons_option, before_first, AllByRecursion}
use Rattle.std.specs.Ordering.{match_ordering}
use Rattle.std.proofs.lemmas.Bool.{and_parts, not-true, or_parts}
use Rattle.std.proofs.lemmas.List.{take_at, map-append}
use Rattle.std.proofs.lemmas.Grind.{flat_map-append}
use Rattle.pres_tree.specs.declared.scalar.Scalar.{Scalar}
use Rattle.pres_tree.specs.Paths.{Path, path_cmp, meet, same_path}
use Rattle.pres_tree.specs.Rows.{Rows, value_at}
use Rattle.pres_tree.specs.Writes.{tree_after}
use Rattle.pres_write.specs.Basics.{write_of}
use Rattle.pres_ids.specs.declared.id.SessionId.{SessionId}
use Rattle.pres_wire.specs.declared.down.Down.{Down}
use Rattle.pres_wire.specs.declared.down.Down.TheVariants as down
use Rattle.pres_ids.specs.Ids.{same_session}
use Rattle.pres_wire.specs.Messages.{number_in}
use Rattle.pres_retry.specs.declared.table.Row.{Row}
use Rattle.pres_tree.proofs.After.{value_kept}
use Rattle.pres_fan.specs.Listeners.{add_path, is_touched}
use Rattle.pres_tree.specs.Falls.{path_same as path_apart}
use Rattle.pres_tree.proofs.PathOrder.{path_same, path_itself}
use Rattle.pres_log.specs.declared.entry.Entry.{Entry}
use Rattle.pres_log.specs.declared.entry.Entry.TheVariants as entry
use Rattle.pres_log.specs.Logs.{tree, writes, writes_of}
use Rattle.pres_wire.specs.Views.{value_in, value_told, seen, seen_in}
use Rattle.pres_server.specs.Sessions.{session_of}
use Rattle.pres_server.specs.Answering.{Unnumbered, shown}
use Rattle.pres_server.proofs.Clients.{session_itself}
use Rattle.pres_history.specs.Sessions.{opens, ends, since_open}
use Rattle.pres_history.specs.Listening.{listens_after, listened, touched}
use Rattle.pres_history.specs.Streams.{push_of, repeated_reply, own_answer, sent_for, sent_from, numbered_from, stream}
use Rattle.pres_history.specs.Laws.{TellsTheTree, StreamTells, unlistens, snap_of, ViewsAreTrue}
use Rattle.pres_history.proofs.Since.{not_ended_since, any-append, split_at_open}
use Rattle.pres_history.proofs.StreamSteps.{stream-append, stream_unopened, numbered_from-append}
use Rattle.pres_history.proofs.ListenSteps.{listened_own, listened_other}

-- ---- paths

abbrev has_path : Path → List Path → Bool
has_path p paths = list_any (same_path p) paths

or_true : (a b : Bool) → b ≡ true → (a || b) ≡ true
or_true true b h = refl
or_true false b h = h

added_there : (p : Path) (paths : List Path) → has_path p (add_path p paths) ≡ true
added_there p [] = ap (λ b. b || false) (path_itself p)
added_there p (x ∷ xs) = by (path_cmp p x) refl (added_there p xs) where
  by : (o : Ordering) → path_cmp p x ≡ o → has_path p (add_path p xs) ≡ true → has_path p (match_ordering o (p ∷ x ∷ xs) (x ∷ xs) (x ∷ add_path p xs)) ≡ true
  by Less e h = ap (λ b. b || has_path p (x ∷ xs)) (path_itself p)
  by Equal e h = ap (λ b. b || has_path p xs) (ap (same_path p) (sym (path_apart p x e)) ∙ path_itself p)
  by Greater e h = or_true (same_path p x) _ h

others_stay : (p y : Path) (paths : List Path) → has_path p paths ≡ true → has_path p (add_path y paths) ≡ true
others_stay p y [] h = absurd (true≢false (sym h))
others_stay p y (x ∷ xs) h = by (path_cmp y x) (same_path p x) refl h (others_stay p y xs) where
  by : (o : Ordering) (b : Bool) → same_path p x ≡ b → (b || has_path p xs) ≡ true → (has_path p xs ≡ true → has_path p (add_path y xs) ≡ true) → has_path p (match_ordering o (y ∷ x ∷ xs) (x ∷ xs) (x ∷ add_path y xs)) ≡ true
  by Less b e k f = or_true (same_path p y) _ h
  by Equal b e k f = h
  by Greater true e k f = ap (λ c. c || has_path p (add_path y xs)) e
  by Greater false e k f = or_true (same_path p x) _ (f k)

has-filter : (p : Path) (f : Path → Bool) (paths : List Path) → f p ≡ true → has_path p paths ≡ true → has_path p (filter f paths) ≡ true
has-filter p f [] h k = k
has-filter p f (x ∷ xs) h k = by (same_path p x) refl (f x) refl k (has-filter p f xs h) where
  by : (b : Bool) → same_path p x ≡ b → (c : Bool) → f x ≡ c → (b || has_path p xs) ≡ true → (has_path p xs ≡ true → has_path p (filter f xs) ≡ true) → has_path p (cond c (x ∷ filter f xs) (filter f xs)) ≡ true
  by true e true i l g = ap (λ b. b || has_path p (filter f xs)) e
  by true e false i l g = absurd (true≢false (sym h ∙ ap f (path_same p x e) ∙ i))
  by false e true i l g = or_true (same_path p x) _ (g l)
  by false e false i l g = g l

-- ---- a session that listens to p goes on to do so until an Off of p

still_own : (p : Path) (paths : List Path) (s : SessionId) (e : Entry) → same_session s (session_of e) ≡ true → unlistens s p e ≡ false → has_path p paths ≡ true → has_path p (listens_after paths e) ≡ true
still_own p paths s (entry.Open t) k n h = h
still_own p paths s (entry.Op t q i op outcome) k n h = h
still_own p paths s (entry.Again t q i) k n h = h
still_own p paths s (entry.Left t q puts) k n h = h
still_own p paths s (entry.Cancelled t q path) k n h = h
still_own p paths s (entry.Denied t q why) k n h = h
still_own p paths s (entry.On t q path) k n h = others_stay p path paths h
still_own p paths s (entry.Off t q path) k n h = has-filter p (λ x. not (same_path path x)) paths (ap not (sym (ap (λ b. b && same_path path p) k) ∙ n)) h
still_own p paths s (entry.Ended t q why rows) k n h = h

still_listens : (s : SessionId) (p : Path) (es : List Entry) (e : Entry) → list_any (opens s) es ≡ true → unlistens s p e ≡ false → has_path p (listened s es) ≡ true → has_path p (listened s (es ++ e ∷ [])) ≡ true
still_listens s p es e o n h = by (same_session s (session_of e)) refl where
  by : (b : Bool) → same_session s (session_of e) ≡ b → has_path p (listened s (es ++ e ∷ [])) ≡ true
  by true k = ap (has_path p) (listened_own s es e o k) ∙ still_own p (listened s es) s e k n h
  by false k = ap (has_path p) (listened_other s es e o k) ∙ h

-- ---- what a message of the last entry tells

-- its number is that of the entry, and it tells nothing of p or what stands there now
abbrev TellsNow : Path → List Entry → Unnumbered → Type 0
TellsNow p now m = (r : ℕ) → (number_in (m r) ≡ length now) × ((value_told p (m r) ≡ None) ⊎ (value_told p (m r) ≡ Some (value_at p (tree now))))

value_made : (p : Path) (t : Rows Scalar) (paths : List Path) → (value_in p (map (shown t) paths) ≡ None) ⊎ (value_in p (map (shown t) paths) ≡ Some (value_at p t))
value_made p t [] = inl refl
value_made p t (x ∷ paths) = by (same_path p x) refl (value_made p t paths) where
  by : (b : Bool) → same_path p x ≡ b → (value_in p (map (shown t) paths) ≡ None) ⊎ (value_in p (map (shown t) paths) ≡ Some (value_at p t))
      → (cond b (Some (value_at x t)) (value_in p (map (shown t) paths)) ≡ None) ⊎ (cond b (Some (value_at x t)) (value_in p (map (shown t) paths)) ≡ Some (value_at p t))
  by true e h = inr (ap (λ y. Some (value_at y t)) (sym (path_same p x e)))
  by false e h = h

value_there : (p : Path) (t : Rows Scalar) (paths : List Path) → has_path p paths ≡ true → value_in p (map (shown t) paths) ≡ Some (value_at p t)
value_there p t [] h = absurd (true≢false (sym h))
value_there p t (x ∷ paths) h = by (same_path p x) refl h (value_there p t paths) where
  by : (b : Bool) → same_path p x ≡ b → (b || has_path p paths) ≡ true → (has_path p paths ≡ true → value_in p (map (shown t) paths) ≡ Some (value_at p t))
      → cond b (Some (value_at x t)) (value_in p (map (shown t) paths)) ≡ Some (value_at p t)
  by true e k g = ap (λ y. Some (value_at y t)) (sym (path_same p x e))
  by false e k g = g k

all-append : {A : Type 0} (P : A → Type 0) (xs ys : List A) → AllByRecursion P xs → AllByRecursion P ys → AllByRecursion P (xs ++ ys)
all-append P [] ys h k = k
all-append P (x ∷ xs) ys h k = (h.0, all-append P xs ys h.1 k)

push_tells : (p : Path) (s : SessionId) (now : List Entry) (paths : List Path) → AllByRecursion (TellsNow p now) (push_of s now paths)
push_tells p s now [] = tt
push_tells p s now (x ∷ paths) = (λ r. (refl, value_made p (tree now) (x ∷ paths)), tt)

reply_tells : (p : Path) (now : List Entry) (s : SessionId) (q n : ℕ) (row : Option Row) → AllByRecursion (TellsNow p now) (repeated_reply s (length now) q n row)
reply_tells p now s q n None = tt
reply_tells p now s q n (Some row) = (λ r. (refl, inl refl), tt)

own_tells : (p : Path) (now : List Entry) (e : Entry) → AllByRecursion (TellsNow p now) (own_answer now e)
own_tells p now (entry.Open s) = tt
own_tells p now (entry.Op s q n op outcome) = (λ r. (refl, inl refl), tt)
own_tells p now (entry.Again s q n) = reply_tells p now s q n _
own_tells p now (entry.Left s q puts) = (λ r. (refl, inl refl), tt)
own_tells p now (entry.Cancelled s q path) = (λ r. (refl, inl refl), tt)
own_tells p now (entry.Denied s q why) = (λ r. (refl, inl refl), tt)
own_tells p now (entry.On s q path) = (λ r. (refl, by (same_path p path) refl), tt) where
  by : (b : Bool) → same_path p path ≡ b → (cond b (Some (value_at path (tree now))) None ≡ None) ⊎ (cond b (Some (value_at path (tree now))) None ≡ Some (value_at p (tree now)))
  by true e = inr (ap (λ y. Some (value_at y (tree now))) (sym (path_same p path e)))
  by false e = inl refl
own_tells p now (entry.Off s q path) = (λ r. (refl, inl refl), tt)
own_tells p now (entry.Ended s q why rows) = (λ r. (refl, inl refl), tt)

answer_tells : (p : Path) (s : SessionId) (now : List Entry) (e : Entry) → AllByRecursion (TellsNow p now) (cond (same_session s (session_of e)) (own_answer now e) [])
answer_tells p s now e = by (same_session s (session_of e)) where
  by : (b : Bool) → AllByRecursion (TellsNow p now) (cond b (own_answer now e) [])
  by true = own_tells p now e
  by false = tt

sent_tells : (p : Path) (s : SessionId) (now : List Entry) (e : Entry) → AllByRecursion (TellsNow p now) (sent_for s now e)
sent_tells p s now e = all-append (TellsNow p now) (push_of s now (touched s now e)) _ (push_tells p s now (touched s now e)) (answer_tells p s now e)

-- ---- so a stream tells the tree

some_same : (v w : Rows Scalar) → Some v ≡ Some w → v ≡ w
some_same v w k = ap (λ o. unwrap_or o v) k

tells_all : (p : Path) (all now : List Entry) (r : ℕ) (ms : List Unnumbered) → take (length now) all ≡ now → AllByRecursion (TellsNow p now) ms → AllByRecursion (TellsTheTree p all) (numbered_from r ms)
tells_all p all now r [] t h = tt
tells_all p all now r (m ∷ ms) t h = ((λ value k. by value (h.0 r).1 k ∙ sym (ap (λ es. value_at p (tree es)) (ap (λ z. take z all) (h.0 r).0 ∙ t))), tells_all p all now (r + 1) ms t h.1) where
  by : (value : Rows Scalar) → (value_told p (m r) ≡ None) ⊎ (value_told p (m r) ≡ Some (value_at p (tree now))) → value_told p (m r) ≡ Some value → value ≡ value_at p (tree now)
  by value (inl e) k = let no : ◌≡◌ {A = Option (Rows Scalar)} None (Some value) = sym e ∙ k in absurd (cc)
  by value (inr e) k = some_same value (value_at p (tree now)) (sym k ∙ e)

from_tells : (s : SessionId) (p : Path) (all before later : List Entry) (r : ℕ) → before ++ later ≡ all → AllByRecursion (TellsTheTree p all) (numbered_from r (sent_from s before later))
from_tells s p all before [] r same = tt
from_tells s p all before (e ∷ later) r same =
    let now : List Entry = before ++ e ∷ [] in
    let whole : now ++ later ≡ all = append_assoc before (e ∷ []) later ∙ same in
    let t : take (length now) all ≡ now = ap (take (length now)) (sym whole) ∙ take_at now later (length now) refl in
    subst (AllByRecursion (TellsTheTree p all)) (sym (numbered_from-append r (sent_for s now e) (cond (ends s e) [] (sent_from s now later))))
    (all-append (TellsTheTree p all) (numbered_from r (sent_for s now e)) _ (tells_all p all now r (sent_for s now e) t (sent_tells p s now e))
    (by (ends s e) (length (sent_for s now e) + r) (λ k. from_tells s p all now later k whole))) where
      by : (b : Bool) (k : ℕ) → ((j : ℕ) → AllByRecursion (TellsTheTree p all) (numbered_from j (sent_from s (before ++ e ∷ []) later)))
          → AllByRecursion (TellsTheTree p all) (numbered_from k (cond b [] (sent_from s (before ++ e ∷ []) later)))
      by true k f = tt
      by false k f = f k

pub stream_tells : (s : SessionId) (p : Path) (es : List Entry) → StreamTells s p es
stream_tells s p es = by (list_any (opens s) es) refl where
  by : (b : Bool) → list_any (opens s) es ≡ b → StreamTells s p es
  by true o = from_tells s p es (before_first (opens s) es ++ entry.Open s ∷ []) (since_open s es) 1 (split_at_open s es o)
  by false o = subst (AllByRecursion (TellsTheTree p es)) (sym (stream_unopened s es o)) tt

-- ---- what is seen, message by message

abbrev View : Type 0
View = ℕ × Rows Scalar

abbrev told_or : Rows Scalar → Option (Rows Scalar) → Rows Scalar
told_or v None = v
told_or v (Some w) = w

-- after one more message: its number, and the value that it tells, or else the one before
abbrev see : Path → View → Down → View
see p view m = (number_in m, told_or view.1 (value_told p m))

seen_fold : (p : Path) (m : Down) (w : Rows Scalar) (ms : List Down) → seen (last_or (Some m) ms) (last_or (Some w) (filter_map (value_told p) ms)) ≡ Some (fold (see p) (number_in m, w) ms)
seen_fold p m w [] = refl
seen_fold p m w (x ∷ ms) = by (value_told p x) (λ o. seen_fold p x o ms) where
  by : (o : Option (Rows Scalar)) → ((u : Rows Scalar) → seen (last_or (Some x) ms) (last_or (Some u) (filter_map (value_told p) ms)) ≡ Some (fold (see p) (number_in x, u) ms))
      → seen (last_or (Some x) ms) (last_or (Some w) (cons_option o (filter_map (value_told p) ms))) ≡ Some (fold (see p) (number_in x, told_or w o) ms)
  by None f = f w
  by (Some u) f = f u

view_fold : (p : Path) (m : Down) (w : Rows Scalar) (ms : List Down) → value_told p m ≡ Some w → seen_in p (m ∷ ms) ≡ Some (fold (see p) (number_in m, w) ms)
view_fold p m w ms e = ap (λ o. seen (last_or (Some m) ms) (last_or None (cons_option o (filter_map (value_told p) ms)))) e ∙ seen_fold p m w ms

-- the view is the value at its number
abbrev IsTrueView : Path → List Entry → View → Type 0
IsTrueView p all view = view.1 ≡ value_at p (tree (take view.0 all))

-- and also what stands there now
abbrev IsNow : Path → List Entry → List Entry → View → Type 0
IsNow p all now view = (view.1 ≡ value_at p (tree now)) × IsTrueView p all view

-- it is true before each of these messages and after the last
abbrev TrueAlong : Path → List Entry → View → List Down → Type 0
TrueAlong p all view [] = IsTrueView p all view
TrueAlong p all view (m ∷ ms) = IsTrueView p all view × TrueAlong p all (see p view m) ms

along-append : (p : Path) (all : List Entry) (view : View) (ms ns : List Down) → TrueAlong p all view ms → TrueAlong p all (fold (see p) view ms) ns → TrueAlong p all view (ms ++ ns)
along-append p all view [] ns h k = k
along-append p all view (m ∷ ms) ns h k = (h.0, along-append p all (see p view m) ms ns h.1 k)

along-take : (p : Path) (all : List Entry) (view : View) (ms : List Down) (k : ℕ) → TrueAlong p all view ms → IsTrueView p all (fold (see p) view (take k ms))
along-take p all view [] zero h = h
along-take p all view [] (suc k) h = h
along-take p all view (m ∷ ms) zero h = h.0
along-take p all view (m ∷ ms) (suc k) h = along-take p all (see p view m) ms k h.1

-- a message of the last entry tells what stands now, where the view does already or the message says it
sees_now : (p : Path) (all now : List Entry) (view : View) (m : Down) → take (length now) all ≡ now → number_in m ≡ length now
    → ((value_told p m ≡ None) × (view.1 ≡ value_at p (tree now))) ⊎ (value_told p m ≡ Some (value_at p (tree now))) → IsNow p all now (see p view m)
sees_now p all now view m t n h = (value h, value h ∙ sym (ap (λ es. value_at p (tree es)) (ap (λ k. take k all) n ∙ t))) where
  value : ((value_told p m ≡ None) × (view.1 ≡ value_at p (tree now))) ⊎ (value_told p m ≡ Some (value_at p (tree now))) → told_or view.1 (value_told p m) ≡ value_at p (tree now)
  value (inl k) = ap (told_or view.1) k.0 ∙ k.1
  value (inr k) = ap (told_or view.1) k

along_now : (p : Path) (all now : List Entry) (view : View) (r : ℕ) (ms : List Unnumbered) → take (length now) all ≡ now → AllByRecursion (TellsNow p now) ms → IsNow p all now view
    → TrueAlong p all view (numbered_from r ms) × IsNow p all now (fold (see p) view (numbered_from r ms))
along_now p all now view r [] t h v = (v.1, v)
along_now p all now view r (m ∷ ms) t h v =
    let rest = along_now p all now (see p view (m r)) (r + 1) ms t h.1 (sees_now p all now view (m r) t (h.0 r).0 (ready (h.0 r).1)) in
    ((v.1, rest.0), rest.1) where
      ready : (value_told p (m r) ≡ None) ⊎ (value_told p (m r) ≡ Some (value_at p (tree now))) → ((value_told p (m r) ≡ None) × (view.1 ≡ value_at p (tree now))) ⊎ (value_told p (m r) ≡ Some (value_at p (tree now)))
      ready (inl e) = inl (e, v.0)
      ready (inr e) = inr e

-- an entry that writes nothing at, above or below p leaves the value there
any-map : {A B : Type 0} (f : B → Bool) (g : A → B) (xs : List A) → list_any f (map g xs) ≡ list_any (λ x. f (g x)) xs
any-map f g [] = refl
any-map f g (x ∷ xs) = ap (λ b. f (g x) || b) (any-map f g xs)

left_there : (p : Path) (before : List Entry) (e : Entry) → is_touched (writes_of e) p ≡ false → value_at p (tree (before ++ e ∷ [])) ≡ value_at p (tree before)
left_there p before e h =
    ap (λ l. value_at p (tree_after (map write_of l))) (flat_map-append writes_of before (e ∷ []) ∙ ap (λ l. writes before ++ l) (append-nil (writes_of e)))
    ∙ ap (λ l. value_at p (tree_after l)) (map-append write_of (writes before) (writes_of e))
    ∙ value_kept p (map write_of (writes before)) (map write_of (writes_of e)) (any-map (λ w. meet w.path p) write_of (writes_of e) ∙ h)

-- one entry, to a session that listens to p
along_entry : (s : SessionId) (p : Path) (all before : List Entry) (e : Entry) (view : View) (r : ℕ) → take (length (before ++ e ∷ [])) all ≡ before ++ e ∷ [] → has_path p (listened s (before ++ e ∷ [])) ≡ true → IsNow p all before view
    → TrueAlong p all view (numbered_from r (sent_for s (before ++ e ∷ []) e)) × IsNow p all (before ++ e ∷ []) (fold (see p) view (numbered_from r (sent_for s (before ++ e ∷ []) e)))
along_entry s p all before e view r t h v = by_touch (is_touched (writes_of e) p) refl where
  now : List Entry
  now = before ++ e ∷ []

  answer : List Unnumbered
  answer = cond (same_session s (session_of e)) (own_answer now e) []

  Step : List Unnumbered → Type 0
  Step ms = TrueAlong p all view (numbered_from r ms) × IsNow p all now (fold (see p) view (numbered_from r ms))

  by_paths : (paths : List Path) → has_path p paths ≡ true → Step (push_of s now paths ++ answer)
  by_paths [] k = absurd (true≢false (sym k))
  by_paths (x ∷ paths) k =
      let m : Down = down.Push s r (length now) (map (shown (tree now)) (x ∷ paths)) in
      let rest = along_now p all now (see p view m) (r + 1) answer t (answer_tells p s now e) (sees_now p all now view m t refl (inr (value_there p (tree now) (x ∷ paths) k))) in
      ((v.1, rest.0), rest.1)

  by_touch : (b : Bool) → is_touched (writes_of e) p ≡ b → Step (sent_for s now e)
  by_touch true k = by_paths (touched s now e) (has-filter p (is_touched (writes_of e)) (listened s now) k h)
  by_touch false k = along_now p all now view r (sent_for s now e) t (sent_tells p s now e) (v.0 ∙ sym (left_there p before e k), v.1)

along : (s : SessionId) (p : Path) (all before later : List Entry) → before ++ later ≡ all → list_any (opens s) before ≡ true → has_path p (listened s before) ≡ true → list_any (unlistens s p) later ≡ false
    → (view : View) → IsNow p all before view → (r : ℕ) → TrueAlong p all view (numbered_from r (sent_from s before later))
along s p all before [] same o l n view v r = v.1
along s p all before (e ∷ later) same o l n view v r =
    let now : List Entry = before ++ e ∷ [] in
    let not_off = or_parts (unlistens s p e) (list_any (unlistens s p) later) n in
    let listens = still_listens s p before e o not_off.0 l in
    let whole : now ++ later ≡ all = append_assoc before (e ∷ []) later ∙ same in
    let step = along_entry s p all before e view r (ap (take (length now)) (sym whole) ∙ take_at now later (length now) refl) listens v in
    let opened : list_any (opens s) now ≡ true = any-append (opens s) before (e ∷ []) ∙ ap (λ b. b || list_any (opens s) (e ∷ [])) o in
    subst (TrueAlong p all view) (sym (numbered_from-append r (sent_for s now e) (cond (ends s e) [] (sent_from s now later))))
    (along-append p all view (numbered_from r (sent_for s now e)) _ step.0
    (by_end (fold (see p) view (numbered_from r (sent_for s now e))) (ends s e) (length (sent_for s now e) + r) step.1 (along s p all now later whole opened listens not_off.1))) where
      by_end : (w : View) (b : Bool) (k : ℕ) → IsNow p all (before ++ e ∷ []) w
          → ((u : View) → IsNow p all (before ++ e ∷ []) u → (j : ℕ) → TrueAlong p all u (numbered_from j (sent_from s (before ++ e ∷ []) later)))
          → TrueAlong p all w (numbered_from k (cond b [] (sent_from s (before ++ e ∷ []) later)))
      by_end w true k h f = h.1
      by_end w false k h f = f w h k

never : {A : Type 0} (xs : List A) → filter (λ x. false) xs ≡ []
never [] = refl
never (x ∷ xs) = never xs

-- from the answer to an On of an open session, with no Off of its path after it, each view is the value at its number
pub views_are_true : (s : SessionId) (q : ℕ) (p : Path) (before later : List Entry) → ViewsAreTrue s q p before later
views_are_true s q p before later open_then n = record { rest = more; sent = is_sent; seen = is_seen } where
  on : Entry
  on = entry.On s q p

  now : List Entry
  now = before ++ on ∷ []

  all : List Entry
  all = before ++ on ∷ later

  number : ℕ
  number = length (stream s before) + 1

  more : List Down
  more = numbered_from (number + 1) (sent_from s now later)

  opened : list_any (opens s) before ≡ true
  opened = (and_parts (list_any (opens s) before) _ open_then).0

  ongoing : list_any (ends s) (since_open s before) ≡ false
  ongoing = not_ended_since s before (not-true _ (and_parts (list_any (opens s) before) _ open_then).1)

  is_sent : stream s all ≡ stream s before ++ (snap_of s q p before ∷ more)
  is_sent =
      stream-append s before (on ∷ later) opened
      ∙ ap (λ b. stream s before ++ numbered_from number (cond b [] (sent_from s before (on ∷ later)))) ongoing
      ∙ ap (λ ps. stream s before ++ numbered_from number ((push_of s now ps ++ cond (same_session s s) (own_answer now on) []) ++ sent_from s now later)) (never (listened s now))
      ∙ ap (λ b. stream s before ++ numbered_from number (cond b (own_answer now on) [] ++ sent_from s now later)) (session_itself s)

  listens : has_path p (listened s now) ≡ true
  listens = ap (has_path p) (listened_own s before on opened (session_itself s)) ∙ added_there p (listened s before)

  start_view : View
  start_view = (length now, value_at p (tree now))

  whole : now ++ later ≡ all
  whole = append_assoc before (on ∷ []) later

  start : IsNow p all now start_view
  start = (refl, ap (λ es. value_at p (tree es)) (sym (ap (take (length now)) (sym whole) ∙ take_at now later (length now) refl)))

  is_seen : (k : ℕ) → (z : ℕ) × (seen_in p (snap_of s q p before ∷ take k more) ≡ Some (z, value_at p (tree (take z all))))
  is_seen k =
      let last = fold (see p) start_view (take k more) in
      let true_then = along-take p all start_view more k (along s p all now later whole (any-append (opens s) before (on ∷ []) ∙ ap (λ b. b || list_any (opens s) (on ∷ [])) opened) listens n start_view start (number + 1)) in
      (last.0, view_fold p (snap_of s q p before) (value_at p (tree now)) (take k more) (ap (λ b. cond b (Some (value_at p (tree now))) None) (path_itself p)) ∙ ap (λ v. Some (last.0, v)) true_then)
