-- A tree of paths: who listens at a path.
use Rattle.std.specs.Prelude.{◌≡◌, ◌<◌, ◌+◌, ℕ, Bool, false, Option, Some, None, IfSome, List, [], ◌∷◌, length}
use Rattle.std.specs.List.{list_any}
use Rattle.std.specs.Option.{option_and_then}
use Rattle.std.specs.Map.{lookup}
use Rattle.std.specs.BTreeMap.{BTreeMap, is_at}
use Rattle.pres_tree.specs.Keys.{Key, key_cmp}
use Rattle.pres_tree.specs.Paths.{Path}
use Rattle.pres_ids.specs.Ids.{same_session}
use Rattle.pres_ids.specs.declared.id.SessionId.{SessionId}
use Rattle.pres_fan.specs.declared.listeners.Listener.{Listener}
use Rattle.pres_fan.specs.declared.level.Level.{Level, out-Level}
use Rattle.pres_fan.specs.Listeners.{same_listener, listener_of}

-- the sessions that listen at a level, and the levels below it by their keys
abbrev pub sessions_of : Level → List SessionId
sessions_of level = (out-Level level).sessions

abbrev pub entries_in : Option (BTreeMap Key Level) → List (Key × Level)
entries_in None = []
entries_in (Some below) = below.entries

abbrev pub entries_of : Level → List (Key × Level)
entries_of level = entries_in (out-Level level).below

-- the level that the key leads to
abbrev pub child_at : Key → Level → Option Level
child_at k level = lookup (is_at (key_cmp k)) (entries_of level)

-- the level that the path leads to
abbrev pub level_at : Path → Level → Option Level
level_at [] level = Some level
level_at (k ∷ p) level = option_and_then (level_at p) (child_at k level)

-- the session is among those of the level
abbrev pub hears : SessionId → Option Level → Bool
hears s None = false
hears s (Some level) = list_any (same_session s) (sessions_of level)

-- the session listens at the path
abbrev pub heard : Path → SessionId → Level → Bool
heard p s level = hears s (level_at p level)

-- how many sessions a level has, and levels one key below it
abbrev pub size_of : Level → ℕ
size_of level = length (sessions_of level) + length (entries_of level)

-- nobody listens at the level or below it
pub record IsBare (level : Level) : Type 0 where
  pub nobody : sessions_of level ≡ []
  pub nothing : entries_of level ≡ []

-- the level has a session or a level below it
abbrev pub IsUsed : Level → Type 0
IsUsed level = 0 < size_of level

-- no level below is empty
abbrev pub IsTidy : Level → Type 0
IsTidy level = (k : Key) (p : Path) → IfSome (level_at (k ∷ p) level) IsUsed

-- the sessions listen in the tree where they do in the list, and no level below the root is empty
pub record AreHeard (listeners : List Listener) (root : Level) : Type 0 where
  pub heard_where : (p : Path) (s : SessionId) → heard p s root ≡ list_any (same_listener (listener_of s p)) listeners
  pub tidy : IsTidy root
