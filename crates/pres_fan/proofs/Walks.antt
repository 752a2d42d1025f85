-- The listeners that walks over the tree of paths find.
use Rattle.std.proofs.Common.{refl, sym, ◌∙◌, ap, subst, ◌≡◌, ℕ, ◌+◌, ◌<◌, zero, suc, arith, length, take, append_assoc, append-nil, List, [], ◌∷◌, ◌++◌, Bool, true, false, cond, ◌||◌, ◌&&◌, true≢false, Option, Some, None, is_some, Less, is_eq, ◌⊎◌, inl, inr}
use Rattle.std.specs.List.{list_any, AllByRecursion}
use Rattle.std.specs.List.Sorted.{IsStrictlySortedBy}
use Rattle.std.specs.Map.{keys_of, lookup}
use Rattle.std.specs.BTreeMap.{is_at}
use Rattle.std.specs.Cmp.{tied_itself}
use Rattle.std.specs.Cmp.Lexicographic.{nat_list_cmp_total}
use Rattle.std.specs.Prelude.{nat_lt}
use Rattle.std.proofs.lemmas.Bool.{or_cases, or_left, or_right, ltb-true, ltb-false}
use Rattle.std.proofs.lemmas.List.Folds.{list_any-append}
use Rattle.std.proofs.lemmas.Map.Keys.{sorted_head, sorted_tail}
use Rattle.pres_tree.specs.Keys.{Key, key_cmp, same_key, is_key}
use Rattle.pres_tree.specs.Paths.{Path, max_depth, segments, below, is_prefix, meet}
use Rattle.pres_tree.proofs.Found.{key_same}
use Rattle.pres_tree.proofs.Texts.{segments-name}
use Rattle.pres_tree.proofs.Values.{cons_prefix}
use Rattle.pres_write.specs.Basics.{BasicWrite}
use Rattle.pres_ids.specs.Ids.{same_session}
use Rattle.pres_ids.specs.declared.id.SessionId.{SessionId}
use Rattle.pres_fan.specs.declared.listeners.Listener.{Listener}
use Rattle.pres_fan.specs.declared.level.Level.{Level}
use Rattle.pres_fan.specs.Listeners.{same_listener, listener_of, is_touched}
use Rattle.pres_fan.specs.Levels.{sessions_of, entries_of, child_at, heard}
use Rattle.pres_fan.proofs.Orders.{session_same, session_itself}
use Rattle.pres_fan.proofs.Members.{keeps_listener, has_listener, all_behind}
use Rattle.pres_fan.proofs.Levels.{heard_in}

-- the listener is among those found
abbrev pub Has : List Listener → Listener → Type 0
Has found l = list_any (same_listener l) found ≡ true

-- all pass the test
abbrev pub Pass : (Listener → Bool) → List Listener → Type 0
Pass t ls = AllByRecursion (λ l. t l ≡ true) ls

-- ---- the sessions at a path

pub record Here (ss : List SessionId) (path : Path) (before found : List Listener) : Type 0 where
  pub kept : (l : Listener) → Has before l → Has found l
  pub here : (s : SessionId) → list_any (same_session s) ss ≡ true → Has found (listener_of s path)
  pub only : (t : Listener → Bool) → Pass t before → ((s : SessionId) → list_any (same_session s) ss ≡ true → t (listener_of s path) ≡ true) → Pass t found

pub here_begun : (path : Path) (found : List Listener) → Here [] path found found
here_begun path found = record { kept = λ l h. h; here = λ s h. absurd (true≢false (sym h)); only = λ t all near. all }

pub here_more : (ss : List SessionId) (x : SessionId) (path : Path) (before found more : List Listener) → more ≡ found ++ listener_of x path ∷ [] → Here ss path before found → Here (ss ++ x ∷ []) path before more
here_more ss x path before found more is so_far = record {
  kept = λ l h. subst (λ ls. Has ls l) (sym is) (keeps_listener (listener_of x path) l found (so_far.kept l h));
  here = λ s h. subst (λ ls. Has ls (listener_of s path)) (sym is) (found_now s (or_cases (list_any (same_session s) ss) (same_session s x || false) (sym (list_any-append (same_session s) ss (x ∷ [])) ∙ h)));
  only = λ t all near. subst (Pass t) (sym is) (all_behind (λ l. t l ≡ true) (listener_of x path) found
      (so_far.only t all (λ s h. near s (list_any-append (same_session s) ss (x ∷ []) ∙ or_left (list_any (same_session s) ss) _ h)))
      (near x (list_any-append (same_session x) ss (x ∷ []) ∙ or_right (list_any (same_session x) ss) _ (or_left (same_session x x) false (session_itself x)))));
} where
  last : (s : SessionId) → (same_session s x ≡ true) ⊎ (false ≡ true) → Has (found ++ listener_of x path ∷ []) (listener_of s path)
  last s (inl e) = subst (λ u. Has (found ++ listener_of x path ∷ []) (listener_of u path)) (sym (session_same s x e)) (has_listener (listener_of x path) found)
  last s (inr e) = absurd (true≢false (sym e))

  found_now : (s : SessionId) → (list_any (same_session s) ss ≡ true) ⊎ ((same_session s x || false) ≡ true) → Has (found ++ listener_of x path ∷ []) (listener_of s path)
  found_now s (inl e) = keeps_listener (listener_of x path) (listener_of s path) found (so_far.here s e)
  found_now s (inr e) = last s (or_cases (same_session s x) false e)

-- ---- a path with one key more

-- the text of a key is read as the path of that key
pub key_path : (k : Key) → is_key k ≡ true → segments k ≡ k ∷ []
key_path k good = ap segments (sym (append-nil k)) ∙ segments-name (k ∷ []) (omega arith, ap (λ b. b && true) good)

pub has_room : (m n : ℕ) → n ≡ 1 → (max_depth < m + n → ⊥) → m < max_depth
has_room m n one out = by (nat_lt m max_depth) refl where
  by : (b : Bool) → nat_lt m max_depth ≡ b → m < max_depth
  by true e = ltb-true m max_depth e
  by false e = absurd (out (omega (arith, one, ltb-false m max_depth e)))

-- ---- a level and those below it

key_itself : (k : Key) → same_key k k ≡ true
key_itself k = ap is_eq (tied_itself nat_list_cmp_total k)

-- the entries that are left of a level's, and those found
pub record Below (level : Level) (path : Path) (rest : List (Key × Level)) (before found : List Listener) : Type 0 where
  pub within : (k : Key) (c : Level) → lookup (is_at (key_cmp k)) rest ≡ Some c → child_at k level ≡ Some c
  pub ordered : IsStrictlySortedBy key_cmp (keys_of rest)
  pub kept : (l : Listener) → Has before l → Has found l
  pub here : (s : SessionId) → list_any (same_session s) (sessions_of level) ≡ true → Has found (listener_of s path)
  pub left : (k : Key) (c : Level) → child_at k level ≡ Some c → (lookup (is_at (key_cmp k)) rest ≡ Some c) ⊎ ((p : Path) (s : SessionId) → heard p s c ≡ true → Has found (listener_of s (path ++ k ∷ p)))
  pub only : (t : Listener → Bool) → Pass t before → ((p : Path) (s : SessionId) → heard p s level ≡ true → t (listener_of s (path ++ p)) ≡ true) → Pass t found

pub below_begun : (level : Level) (path : Path) (rest : List (Key × Level)) (before found : List Listener) → rest ≡ entries_of level → IsStrictlySortedBy key_cmp (keys_of (entries_of level)) →
    Here (sessions_of level) path before found → Below level path rest before found
below_begun level path rest before found is sorted here = record {
  within = λ k c h. ap (lookup (is_at (key_cmp k))) (sym is) ∙ h;
  ordered = subst (λ es. IsStrictlySortedBy key_cmp (keys_of es)) (sym is) sorted;
  kept = here.kept;
  here = here.here;
  left = λ k c h. inl (ap (lookup (is_at (key_cmp k))) is ∙ h);
  only = λ t all near. here.only t all (λ s h. ap (λ q. t (listener_of s q)) (sym (append-nil path)) ∙ near [] s h);
}

no_keys_rise : IsStrictlySortedBy key_cmp []
unfolding IsStrictlySortedBy
no_keys_rise = tt

-- no level is below
pub below_none : (level : Level) (path : Path) (before found : List Listener) → entries_of level ≡ [] → Here (sessions_of level) path before found → Below level path [] before found
below_none level path before found none here =
    below_begun level path [] before found (sym none) (subst (λ es. IsStrictlySortedBy key_cmp (keys_of es)) (sym none) no_keys_rise) here

none_later : (k : Key) (es : List (Key × Level)) → AllByRecursion (λ l. key_cmp k l ≡ Less) (keys_of es) → lookup (is_at (key_cmp k)) es ≡ None
none_later k [] h = refl
none_later k (e ∷ es) h = ap (λ o. cond (is_eq o) (Some e.1) (lookup (is_at (key_cmp k)) es)) h.0 ∙ none_later k es h.1

not_some : {A : Type 0} (a : A) → None ≡ Some a → ⊥
not_some a e = true≢false (ap is_some (sym e))

-- a later entry is found after the first one
found_later : (k m : Key) (c d : Level) (rest : List (Key × Level)) → IsStrictlySortedBy key_cmp (keys_of ((m, d) ∷ rest)) → lookup (is_at (key_cmp k)) rest ≡ Some c → lookup (is_at (key_cmp k)) ((m, d) ∷ rest) ≡ Some c
found_later k m c d rest sorted h = by (same_key k m) refl where
  by : (b : Bool) → same_key k m ≡ b → cond b (Some d) (lookup (is_at (key_cmp k)) rest) ≡ Some c
  by true e = absurd (not_some c (sym (none_later m rest (sorted_head key_cmp m (keys_of rest) sorted)) ∙ ap (λ q. lookup (is_at (key_cmp q)) rest) (sym (key_same k m e)) ∙ h))
  by false e = h

pub below_more : (level : Level) (path next : Path) (m : Key) (d : Level) (rest : List (Key × Level)) (before found more : List Listener) → next ≡ path ++ m ∷ [] →
    ((l : Listener) → Has found l → Has more l) →
    ((p : Path) (s : SessionId) → heard p s d ≡ true → Has more (listener_of s (next ++ p))) →
    ((t : Listener → Bool) → Pass t found → ((p : Path) (s : SessionId) → heard p s d ≡ true → t (listener_of s (next ++ p)) ≡ true) → Pass t more) →
    Below level path ((m, d) ∷ rest) before found → Below level path rest before more
below_more level path next m d rest before found more is kept new only so_far = record {
  within = λ k c h. so_far.within k c (found_later k m c d rest so_far.ordered h);
  ordered = sorted_tail key_cmp m (keys_of rest) so_far.ordered;
  kept = λ l h. kept l (so_far.kept l h);
  here = λ s h. kept (listener_of s path) (so_far.here s h);
  left = λ k c h. by k c (so_far.left k c h);
  only = λ t all near. only t (so_far.only t all near) (λ p s h. ap (λ q. t (listener_of s q)) (joined p) ∙ near (m ∷ p) s (ap (heard_in p s) first ∙ h));
} where
  joined : (p : Path) → next ++ p ≡ path ++ m ∷ p
  joined p = ap (λ q. q ++ p) is ∙ append_assoc path (m ∷ []) p

  first : child_at m level ≡ Some d
  first = so_far.within m d (ap (λ b. cond b (Some d) (lookup (is_at (key_cmp m)) rest)) (key_itself m))

  which : (k : Key) (c : Level) (b : Bool) → same_key k m ≡ b → cond b (Some d) (lookup (is_at (key_cmp k)) rest) ≡ Some c →
      (lookup (is_at (key_cmp k)) rest ≡ Some c) ⊎ ((p : Path) (s : SessionId) → heard p s c ≡ true → Has more (listener_of s (path ++ k ∷ p)))
  which k c true e h = inr (λ p s g. subst (λ q. Has more (listener_of s q)) (joined p ∙ ap (λ q. path ++ q ∷ p) (sym (key_same k m e))) (new p s (ap (heard_in p s) h ∙ g)))
  which k c false e h = inl h

  by : (k : Key) (c : Level) → (lookup (is_at (key_cmp k)) ((m, d) ∷ rest) ≡ Some c) ⊎ ((p : Path) (s : SessionId) → heard p s c ≡ true → Has found (listener_of s (path ++ k ∷ p))) →
      (lookup (is_at (key_cmp k)) rest ≡ Some c) ⊎ ((p : Path) (s : SessionId) → heard p s c ≡ true → Has more (listener_of s (path ++ k ∷ p)))
  by k c (inl h) = which k c (same_key k m) refl h
  by k c (inr f) = inr (λ p s g. kept (listener_of s (path ++ k ∷ p)) (f p s g))

pub below_all : (level : Level) (path : Path) (before found : List Listener) → Below level path [] before found → (p : Path) (s : SessionId) → heard p s level ≡ true → Has found (listener_of s (path ++ p))
below_all level path before found all [] s h = subst (λ q. Has found (listener_of s q)) (sym (append-nil path)) (all.here s h)
below_all level path before found all (k ∷ p) s h = by (child_at k level) refl h where
  last : (c : Level) → (lookup (is_at (key_cmp k)) [] ≡ Some c) ⊎ ((q : Path) (u : SessionId) → heard q u c ≡ true → Has found (listener_of u (path ++ k ∷ q))) → heard p s c ≡ true → Has found (listener_of s (path ++ k ∷ p))
  last c (inl e) g = absurd (not_some c e)
  last c (inr f) g = f p s g

  by : (o : Option Level) → child_at k level ≡ o → heard_in p s o ≡ true → Has found (listener_of s (path ++ k ∷ p))
  by None e g = absurd (true≢false (sym g))
  by (Some c) e g = last c (all.left k c e) g

-- ---- a level at the first keys of a path

next_keys : (p : Path) (n : ℕ) (k : Key) (ks : Path) → p ≡ take n p ++ k ∷ ks → (take (suc n) p ≡ take n p ++ k ∷ []) × (p ≡ take (suc n) p ++ ks)
next_keys p zero k ks is = (ap (take 1) is, is ∙ ap (λ q. take 1 q ++ ks) (sym is))
next_keys [] (suc n) k ks is = absurd (true≢false (ap is_cons (sym is))) where
  is_cons : Path → Bool
  is_cons [] = false
  is_cons (l ∷ p) = true
next_keys (l ∷ p) (suc n) k ks is =
    let rest = next_keys p n k ks (ap tail is) in
    (ap (λ q. l ∷ q) rest.0, ap (λ q. l ∷ q) rest.1)
  where
    tail : Path → Path
    tail [] = []
    tail (m ∷ q) = q

-- the keys up to the next level, and those after it
pub next_level : (p : Path) (n : ℕ) (k : Key) (ks : Path) → p ≡ take n p ++ k ∷ ks → (take (n + 1) p ≡ take n p ++ k ∷ []) × (p ≡ take (n + 1) p ++ ks)
next_level p n k ks is =
    let more : suc n ≡ n + 1 = omega arith in
    subst (λ m. (take m p ≡ take n p ++ k ∷ []) × (p ≡ take m p ++ ks)) more (next_keys p n k ks is)

-- where a key is left, the level stands at fewer keys than the path has
pub shorter : (p : Path) (n : ℕ) (k : Key) (ks : Path) → p ≡ take n p ++ k ∷ ks → n < length p
shorter p zero k ks is = omega (arith, ap length is)
shorter [] (suc n) k ks is = absurd (true≢false (ap is_cons (sym is))) where
  is_cons : Path → Bool
  is_cons [] = false
  is_cons (l ∷ p) = true
shorter (l ∷ p) (suc n) k ks is = omega (arith, shorter p n k ks (ap tail is)) where
  tail : Path → Path
  tail [] = []
  tail (m ∷ q) = q

same_above : (k : Key) (ks : Path) (q : Key) (p : Path) → meet (k ∷ ks) (q ∷ p) ≡ true → (k ≡ q) × (meet ks p ≡ true)
same_above k ks q p h = by (or_cases (is_prefix (k ∷ ks) (q ∷ p)) (is_prefix (q ∷ p) (k ∷ ks)) h) where
  by : (is_prefix (k ∷ ks) (q ∷ p) ≡ true) ⊎ (is_prefix (q ∷ p) (k ∷ ks) ≡ true) → (k ≡ q) × (meet ks p ≡ true)
  by (inl e) = let each = cons_prefix k q ks p e in (each.0, or_left (is_prefix ks p) _ each.1)
  by (inr e) = let each = cons_prefix q k p ks e in (sym each.0, or_right (is_prefix ks p) _ each.1)

meet_below : (k : Key) (ks p : Path) → meet (k ∷ ks) (k ∷ p) ≡ meet ks p
meet_below k ks p = λ i. is_some (cond (key_itself k i) (below ks p) None) || is_some (cond (key_itself k i) (below p ks) None)

-- those found are all who listen, of those at the level and below it, at a path that meets the keys, and those before
pub record Met (level : Level) (base keys : Path) (before found : List Listener) : Type 0 where
  pub kept : (l : Listener) → Has before l → Has found l
  pub met : (p : Path) (s : SessionId) → meet keys p ≡ true → heard p s level ≡ true → Has found (listener_of s (base ++ p))
  pub only : (t : Listener → Bool) → Pass t before → ((p : Path) (s : SessionId) → meet keys p ≡ true → heard p s level ≡ true → t (listener_of s (base ++ p)) ≡ true) → Pass t found

-- where the next key leads to no level
pub met_here : (level : Level) (base keys : Path) (k : Key) (ks : Path) (before found : List Listener) → keys ≡ k ∷ ks → child_at k level ≡ None → Here (sessions_of level) base before found → Met level base keys before found
met_here level base keys k ks before found is none here = subst (λ q. Met level base q before found) (sym is) (record {
  kept = here.kept;
  met = met;
  only = λ t all near. here.only t all (λ s h. ap (λ q. t (listener_of s q)) (sym (append-nil base)) ∙ near [] s refl h);
}) where
  met : (p : Path) (s : SessionId) → meet (k ∷ ks) p ≡ true → heard p s level ≡ true → Has found (listener_of s (base ++ p))
  met [] s m h = subst (λ q. Has found (listener_of s q)) (sym (append-nil base)) (here.here s h)
  met (q ∷ p) s m h = absurd (true≢false (sym h ∙ ap (λ x. heard_in p s (child_at x level)) (sym (same_above k ks q p m).0) ∙ ap (heard_in p s) none))

-- where it leads to one
pub met_next : (level c : Level) (base next keys : Path) (k : Key) (ks : Path) (before found more : List Listener) → keys ≡ k ∷ ks → next ≡ base ++ k ∷ [] → child_at k level ≡ Some c →
    Here (sessions_of level) base before found → Met c next ks found more → Met level base keys before more
met_next level c base next keys k ks before found more is next_is some here further = subst (λ q. Met level base q before more) (sym is) (record {
  kept = λ l h. further.kept l (here.kept l h);
  met = met;
  only = λ t all near. further.only t (here.only t all (λ s h. ap (λ q. t (listener_of s q)) (sym (append-nil base)) ∙ near [] s refl h))
      (λ p s m h. ap (λ q. t (listener_of s q)) (joined p) ∙ near (k ∷ p) s (meet_below k ks p ∙ m) (ap (heard_in p s) some ∙ h));
}) where
  joined : (p : Path) → next ++ p ≡ base ++ k ∷ p
  joined p = ap (λ q. q ++ p) next_is ∙ append_assoc base (k ∷ []) p

  met : (p : Path) (s : SessionId) → meet (k ∷ ks) p ≡ true → heard p s level ≡ true → Has more (listener_of s (base ++ p))
  met [] s m h = further.kept (listener_of s (base ++ [])) (subst (λ q. Has found (listener_of s q)) (sym (append-nil base)) (here.here s h))
  met (q ∷ p) s m h =
      let each = same_above k ks q p m in
      subst (λ x. Has more (listener_of s x)) (joined p ∙ ap (λ x. base ++ x ∷ p) each.0)
      (further.met p s each.1 (sym (ap (heard_in p s) some) ∙ ap (λ x. heard_in p s (child_at x level)) each.0 ∙ h))

-- where no key is left
pub met_below : (level : Level) (path base keys : Path) (before found : List Listener) → keys ≡ [] → path ≡ base ++ keys →
    ((l : Listener) → Has before l → Has found l) →
    ((p : Path) (s : SessionId) → heard p s level ≡ true → Has found (listener_of s (path ++ p))) →
    ((t : Listener → Bool) → Pass t before → ((p : Path) (s : SessionId) → heard p s level ≡ true → t (listener_of s (path ++ p)) ≡ true) → Pass t found) →
    Met level base keys before found
met_below level path base keys before found none is kept all only =
    let same : path ≡ base = is ∙ ap (λ q. base ++ q) none ∙ append-nil base in
    record {
      kept = kept;
      met = λ p s m h. subst (λ q. Has found (listener_of s (q ++ p))) same (all p s h);
      only = λ t before near. only t before (λ p s h. ap (λ q. t (listener_of s (q ++ p))) same ∙ near p s (ap (λ q. meet q p) none) h);
    }

-- ---- the writes

-- nobody is lost whose path one of these writes touches
abbrev pub FindsTouched : List BasicWrite → Level → List Listener → Type 0
FindsTouched writes root found = (l : Listener) → is_touched writes l.path ≡ true → heard l.path l.session root ≡ true → Has found l

pub finds_none : (root : Level) (found : List Listener) → FindsTouched [] root found
finds_none root found l h e = absurd (true≢false (sym h))

pub finds_more : (writes : List BasicWrite) (w : BasicWrite) (root : Level) (found more : List Listener) → Met root [] w.path found more → FindsTouched writes root found → FindsTouched (writes ++ w ∷ []) root more
finds_more writes w root found more new f l h e =
    by (or_cases (is_touched writes l.path) (meet w.path l.path || false) (sym (list_any-append (λ v. meet v.path l.path) writes (w ∷ [])) ∙ h)) where
      last : (meet w.path l.path ≡ true) ⊎ (false ≡ true) → Has more l
      last (inl g) = new.met l.path l.session g e
      last (inr g) = absurd (true≢false (sym g))

      by : (is_touched writes l.path ≡ true) ⊎ ((meet w.path l.path || false) ≡ true) → Has more l
      by (inl k) = new.kept l (f l k e)
      by (inr k) = last (or_cases (meet w.path l.path) false k)

-- a test is passed by those found where all pass it whose paths these writes touch
abbrev pub OnlyTouched : List BasicWrite → Level → List Listener → Type 0
OnlyTouched writes root found = (t : Listener → Bool) → ((l : Listener) → is_touched writes l.path ≡ true → heard l.path l.session root ≡ true → t l ≡ true) → Pass t found

pub only_more : (writes : List BasicWrite) (w : BasicWrite) (root : Level) (found more : List Listener) → Met root [] w.path found more → OnlyTouched writes root found → OnlyTouched (writes ++ w ∷ []) root more
only_more writes w root found more new only t f =
    new.only t (only t (λ l h e. f l (seen l (or_left _ _ h)) e)) (λ p s h e. f (listener_of s p) (seen (listener_of s p) (or_right (is_touched writes p) _ (or_left (meet w.path p) false h))) e)
  where
    seen : (l : Listener) → (is_touched writes l.path || (meet w.path l.path || false)) ≡ true → is_touched (writes ++ w ∷ []) l.path ≡ true
    seen l h = list_any-append (λ v. meet v.path l.path) writes (w ∷ []) ∙ h
