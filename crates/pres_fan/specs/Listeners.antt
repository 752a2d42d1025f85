-- Listeners: which sessions listen to which places, and whom writes touch.
use Rattle.std.specs.Prelude.{◌≤◌, ◌&&◌, ℕ, Bool, not, List, [], ◌∷◌, map, length, filter}
use Rattle.std.specs.List.{list_any}
use Rattle.std.specs.List.Sorted.{IsStrictlySortedBy}
use Rattle.std.specs.Ordering.{nat_cmp, ordering_then}
use Rattle.std.specs.declared.cmp.Ordering.{Ordering}
use Rattle.std.specs.BTreeSet.{insert_key}
use Rattle.pres_tree.specs.Paths.{Path, path_cmp, same_path, meet}
use Rattle.pres_write.specs.Basics.{BasicWrite}
use Rattle.pres_ids.specs.Ids.{client_cmp, same_session}
use Rattle.pres_ids.specs.declared.id.SessionId.{SessionId}
use Rattle.pres_fan.specs.declared.listeners.Listener.{Listener}

-- ---- orders

-- sessions are ordered by client, then by stamp
abbrev pub session_cmp : SessionId → SessionId → Ordering
session_cmp s t = ordering_then (client_cmp s.client t.client) (ordering_then (nat_cmp s.incarnation t.incarnation) (nat_cmp s.attempt t.attempt))

-- listeners are ordered by session, then by path
abbrev pub listener_cmp : Listener → Listener → Ordering
listener_cmp k l = ordering_then (session_cmp k.session l.session) (path_cmp k.path l.path)

-- the same session and the same place
abbrev pub same_listener : Listener → Listener → Bool
same_listener k l = same_session k.session l.session && same_path k.path l.path

-- ---- who listens to what

-- a session that listens to a place
abbrev pub listener_of : SessionId → Path → Listener
listener_of session path = record { session = session; path = path }

-- the places that the session listens to
abbrev pub paths_of : SessionId → List Listener → List Path
paths_of session listeners = map (λ l. l.path) (filter (λ l. same_session session l.session) listeners)

-- the most places that a session listens to
abbrev pub most_paths : ℕ
most_paths = 256

-- what a list of listeners keeps: each stands once, in order, and no session listens to too many places
pub record IsListeners (listeners : List Listener) : Type 0 where
  pub ordered : IsStrictlySortedBy listener_cmp listeners
  pub few : (session : SessionId) → length (paths_of session listeners) ≤ most_paths

-- the paths with one more, in order, where it wasn't there
abbrev pub add_path : Path → List Path → List Path
add_path path paths = insert_key path_cmp paths path

-- the session listens to one place more, where it didn't already
abbrev pub with_listener : SessionId → Path → List Listener → List Listener
with_listener session path listeners = insert_key listener_cmp listeners (listener_of session path)

-- the session listens to the place no more
abbrev pub without : SessionId → Path → List Listener → List Listener
without session path listeners = filter (λ l. not (same_listener (listener_of session path) l)) listeners

-- the session listens to nothing more
abbrev pub without_session : SessionId → List Listener → List Listener
without_session session listeners = filter (λ l. not (same_session session l.session)) listeners

-- ---- whom writes touch

-- a write touches a place where one of the two paths is at the other or above it
abbrev pub is_touched : List BasicWrite → Path → Bool
is_touched writes path = list_any (λ w. meet w.path path) writes

-- the places of the session that the writes touch
abbrev pub touched_of : List BasicWrite → SessionId → List Listener → List Path
touched_of writes session listeners = filter (is_touched writes) (paths_of session listeners)

-- the sessions that listen to something, each once
abbrev pub sessions : List Listener → List SessionId
sessions [] = []
sessions (l ∷ ls) = l.session ∷ filter (λ s. not (same_session l.session s)) (sessions ls)

-- each session that listens to something, with its places
abbrev pub by_session : List Listener → List (SessionId × List Path)
by_session listeners = map (λ s. (s, paths_of s listeners)) (sessions listeners)

-- each session that listens to a place that the writes touch, with those places
abbrev pub touched : List BasicWrite → List Listener → List (SessionId × List Path)
touched writes listeners = by_session (filter (λ l. is_touched writes l.path) listeners)
