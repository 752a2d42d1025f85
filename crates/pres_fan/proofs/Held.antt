-- What listeners and the tree of their paths keep together.
use Rattle.std.proofs.Common.{refl, sym, ◌∙◌, ap, ◌≡◌, List, [], ◌∷◌, map, filter, Bool, true, false, not, cond, ◌||◌, ◌&&◌}
use Rattle.std.specs.List.{list_any}
use Rattle.std.specs.Cmp.{both_ways}
use Rattle.pres_tree.specs.Paths.{Path, same_path}
use Rattle.pres_tree.proofs.PathOrder.{path_same, path_itself}
use Rattle.pres_ids.specs.Ids.{same_session}
use Rattle.pres_ids.specs.declared.id.SessionId.{SessionId}
use Rattle.pres_fan.specs.declared.listeners.Listener.{Listener}
use Rattle.pres_fan.specs.declared.level.Level.{Level}
use Rattle.pres_fan.specs.Listeners.{same_listener, listener_of, paths_of, with_listener, without, without_session, IsListeners}
use Rattle.pres_fan.specs.Levels.{heard, IsBare, IsTidy, AreHeard}
use Rattle.pres_fan.proofs.Orders.{session_same}
use Rattle.pres_fan.proofs.Sets.{any_put, any_filter}
use Rattle.pres_fan.proofs.Levels.{nobody_hears, bare_tidy}

abbrev pub AreHeld : List Listener → Level → Type 0
AreHeld ls root = IsListeners ls × AreHeard ls root

pub nobody_heard : (root : Level) → IsBare root → AreHeard [] root
nobody_heard root bare = record { heard_where = nobody_hears root bare; tidy = bare_tidy root bare }

-- a listener more
pub heard_with : (t : SessionId) (keys : Path) (ls : List Listener) (old new : Level) → AreHeard ls old →
    ((p : Path) (s : SessionId) → heard p s new ≡ (same_listener (listener_of t keys) (listener_of s p) || heard p s old)) → (IsTidy old → IsTidy new) → AreHeard (with_listener t keys ls) new
heard_with t keys ls old new held added tidy = record {
  heard_where = λ p s.
      added p s
      ∙ ap (λ b. same_listener (listener_of t keys) (listener_of s p) || b) (held.heard_where p s)
      ∙ sym (any_put (listener_of t keys) (listener_of s p) ls);
  tidy = tidy held.tidy;
}

-- nobody more
pub heard_same : (ls : List Listener) (old new : Level) → AreHeard ls old → ((p : Path) (s : SessionId) → heard p s new ≡ heard p s old) → (IsTidy old → IsTidy new) → AreHeard ls new
heard_same ls old new held same tidy = record { heard_where = λ p s. same p s ∙ held.heard_where p s; tidy = tidy held.tidy }

-- a listener less
pub heard_without : (t : SessionId) (keys : Path) (ls : List Listener) (old new : Level) → AreHeard ls old →
    ((p : Path) (s : SessionId) → heard p s new ≡ (not (same_listener (listener_of t keys) (listener_of s p)) && heard p s old)) → (IsTidy old → IsTidy new) → AreHeard (without t keys ls) new
heard_without t keys ls old new held left tidy = record {
  heard_where = λ p s.
      left p s
      ∙ ap (λ b. not (same_listener (listener_of t keys) (listener_of s p)) && b) (held.heard_where p s)
      ∙ sym (any_filter (λ l. not (same_listener (listener_of t keys) l)) (listener_of s p) ls);
  tidy = tidy held.tidy;
}

-- ---- all paths of a session

-- a listener of the session with one of its paths
own_any : (f : Listener → Bool) (s : SessionId) (ls : List Listener) → list_any (λ p. f (listener_of s p)) (paths_of s ls) ≡ list_any (λ l. same_session s l.session && f l) ls
own_any f s [] = refl
own_any f s (l ∷ ls) = by (same_session s l.session) refl (own_any f s ls) where
  L : Bool → Bool
  L b = list_any (λ p. f (listener_of s p)) (map (λ m. m.path) (cond b (l ∷ filter (λ m. same_session s m.session) ls) (filter (λ m. same_session s m.session) ls)))

  by : (b : Bool) → same_session s l.session ≡ b → list_any (λ p. f (listener_of s p)) (paths_of s ls) ≡ list_any (λ m. same_session s m.session && f m) ls →
      L (same_session s l.session) ≡ ((same_session s l.session && f l) || list_any (λ m. same_session s m.session && f m) ls)
  by true e h =
      let is : listener_of s l.path ≡ l = (λ i. listener_of (session_same s l.session e i) l.path) in
      ap L e ∙ (λ i. f (is i) || h i) ∙ sym (ap (λ b. (b && f l) || list_any (λ m. same_session s m.session && f m) ls) e)
  by false e h = ap L e ∙ h ∙ sym (ap (λ b. (b && f l) || list_any (λ m. same_session s m.session && f m) ls) e)

-- the session listens at each of its paths, and nowhere else
own_paths_any : (s : SessionId) (p : Path) (ls : List Listener) → list_any (same_path p) (paths_of s ls) ≡ list_any (same_listener (listener_of s p)) ls
own_paths_any s p ls = own_any (λ l. same_path p l.path) s ls

-- a session less, with all its paths
pub heard_dropped : (t : SessionId) (paths : List Path) (ls : List Listener) (old new : Level) → paths ≡ paths_of t ls → AreHeard ls old →
    ((p : Path) (s : SessionId) → heard p s new ≡ (not (same_session t s && list_any (same_path p) paths) && heard p s old)) → (IsTidy old → IsTidy new) → AreHeard (without_session t ls) new
heard_dropped t paths ls old new is held left tidy = record {
  heard_where = λ p s. left p s ∙ by p s (same_session t s) refl ∙ sym (any_filter (λ l. not (same_session t l.session)) (listener_of s p) ls);
  tidy = tidy held.tidy;
} where
  none : (b : Bool) → (not b && b) ≡ false
  none true = refl
  none false = refl

  by : (p : Path) (s : SessionId) (b : Bool) → same_session t s ≡ b → (not (same_session t s && list_any (same_path p) paths) && heard p s old) ≡ (not (same_session t s) && list_any (same_listener (listener_of s p)) ls)
  by p s true e =
      let own : list_any (same_path p) paths ≡ list_any (same_listener (listener_of s p)) ls =
      ap (list_any (same_path p)) (is ∙ ap (λ u. paths_of u ls) (session_same t s e)) ∙ own_paths_any s p ls in
      (λ i. not (e i && own i) && held.heard_where p s i)
      ∙ none (list_any (same_listener (listener_of s p)) ls)
      ∙ sym (ap (λ b. not b && list_any (same_listener (listener_of s p)) ls) e)
  by p s false e =
      (λ i. not (e i && list_any (same_path p) paths) && held.heard_where p s i)
      ∙ sym (ap (λ b. not b && list_any (same_listener (listener_of s p)) ls) e)

-- a session that listens to nothing
pub nobody_dropped : (t : SessionId) (ls : List Listener) (root : Level) → [] ≡ paths_of t ls → AreHeard ls root → AreHeard (without_session t ls) root
nobody_dropped t ls root none held = heard_dropped t [] ls root root none held (λ p s. sym (by (same_session t s) (heard p s root))) (λ h. h) where
  by : (b c : Bool) → (not (b && false) && c) ≡ c
  by true c = refl
  by false c = refl

-- one path more goes
pub dropped_more : (t : SessionId) (q : Path) (rest : List Path) (old new : Level) →
    ((p : Path) (s : SessionId) → heard p s new ≡ (not (same_listener (listener_of t q) (listener_of s p)) && heard p s old)) →
    (p : Path) (s : SessionId) → (not (same_session t s && list_any (same_path p) rest) && heard p s new) ≡ (not (same_session t s && list_any (same_path p) (q ∷ rest)) && heard p s old)
dropped_more t q rest old new left p s =
    (λ i. not (same_session t s && list_any (same_path p) rest) && left p s i)
    ∙ ap (λ b. not (same_session t s && list_any (same_path p) rest) && (not (same_session t s && b) && heard p s old)) (path_turned q p)
    ∙ by (same_session t s) (same_path p q) (list_any (same_path p) rest) (heard p s old)
  where
    one : (p q : Path) → same_path p q ≡ true → same_path q p ≡ true
    one p q e = ap (λ x. same_path x p) (sym (path_same p q e)) ∙ path_itself p

    path_turned : (p q : Path) → same_path p q ≡ same_path q p
    path_turned p q = both_ways _ _ (one p q) (one q p)

    by : (a b r h : Bool) → (not (a && r) && (not (a && b) && h)) ≡ (not (a && (b || r)) && h)
    by false b r h = refl
    by true true true h = refl
    by true true false h = refl
    by true false r h = refl
