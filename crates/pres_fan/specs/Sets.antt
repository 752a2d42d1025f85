-- The paths of each session, in a map, as the list of listeners that they are.
use Rattle.std.specs.Prelude.{Option, Some, None, List, [], ◌∷◌, ◌++◌, map}
use Rattle.std.specs.List.{All}
use Rattle.std.specs.List.Sorted.{IsStrictlySortedBy}
use Rattle.std.specs.Map.{keys_of, values_of}
use Rattle.std.specs.BTreeSet.{BTreeSet}
use Rattle.pres_tree.specs.Paths.{Path, path_cmp}
use Rattle.pres_ids.specs.declared.id.SessionId.{SessionId}
use Rattle.pres_fan.specs.declared.listeners.Listener.{Listener}
use Rattle.pres_fan.specs.Listeners.{session_cmp, listener_of}

-- each session with the set of its paths
abbrev pub Sets : Type 0
Sets = List (SessionId × BTreeSet Path)

-- the paths of a set, and none where there is none
abbrev pub keys_in : Option (BTreeSet Path) → List Path
keys_in None = []
keys_in (Some paths) = paths.keys

-- the listeners, session by session
abbrev pub listeners_in : Sets → List Listener
listeners_in [] = []
listeners_in (e ∷ es) = map (listener_of e.0) e.1.keys ++ listeners_in es

-- sessions stand once each, in order, and so do the paths of each
abbrev pub AreInOrder : Sets → Type 0
AreInOrder sets = IsStrictlySortedBy session_cmp (keys_of sets) × All (λ paths. IsStrictlySortedBy path_cmp paths.keys) (values_of sets)
