-- Laws of listeners.
use Rattle.std.specs.Prelude.{◌≡◌, not, List, [], ◌∷◌, Option, Some, None, filter, IsTrue, if◌then◌else◌}
use Rattle.std.specs.List.Sorted.{IsStrictlySortedBy}
use Rattle.std.specs.FinMap.Entries.{find, is_sorted}
use Rattle.pres_tree.specs.Paths.{Path, path_cmp, same_path}
use Rattle.pres_write.specs.Basics.{BasicWrite}
use Rattle.pres_ids.specs.Ids.{same_session}
use Rattle.pres_ids.specs.declared.id.SessionId.{SessionId}
use Rattle.pres_fan.specs.declared.listeners.Listener.{Listener}
use Rattle.pres_fan.specs.Listeners.{session_cmp, paths_of, IsListeners, add_path, with_listener, without, without_session, touched_of, touched}

-- The session has the place among its own, and the others keep theirs.
abbrev pub OnSteps : SessionId → Path → List Listener → Type 0
OnSteps session path listeners =
    IsListeners listeners → (t : SessionId) →
    paths_of t (with_listener session path listeners) ≡ (if same_session t session then add_path path (paths_of t listeners) else paths_of t listeners)

-- The session keeps its other places, and the others keep theirs.
abbrev pub OffSteps : SessionId → Path → List Listener → Type 0
OffSteps session path listeners =
    (t : SessionId) →
    paths_of t (without session path listeners) ≡ (if same_session t session then filter (λ p. not (same_path path p)) (paths_of t listeners) else paths_of t listeners)

-- The session has no place, and the others keep theirs.
abbrev pub DropSteps : SessionId → List Listener → Type 0
DropSteps session listeners =
    (t : SessionId) →
    paths_of t (without_session session listeners) ≡ (if same_session t session then [] else paths_of t listeners)

-- The places of a session stand once each, in path order.
abbrev pub PathsRise : SessionId → List Listener → Type 0
PathsRise session listeners = IsListeners listeners → IsStrictlySortedBy path_cmp (paths_of session listeners)

-- The sessions that the writes touch stand once each, in order, and so do the places of each.
abbrev pub TouchedRises : List BasicWrite → List Listener → Type 0
TouchedRises writes listeners =
    IsListeners listeners →
    IsTrue (is_sorted session_cmp (touched writes listeners)) × ((session : SessionId) → IsStrictlySortedBy path_cmp (touched_of writes session listeners))

-- none where there is no path
abbrev pub some_paths : List Path → Option (List Path)
some_paths [] = None
some_paths (p ∷ ps) = Some (p ∷ ps)

-- The session is among those that the writes touch exactly where they touch a place of it, and with those places.
abbrev pub TouchedTells : List BasicWrite → SessionId → List Listener → Type 0
TouchedTells writes session listeners = find session_cmp session (touched writes listeners) ≡ some_paths (touched_of writes session listeners)
