-- What a session listens to, computed from the log, and what an entry touches of it. A listener gets the whole value at
-- its path, as a value listener of Firebase Realtime Database does.
use Rattle.std.specs.Prelude.{not, List, [], fold, filter}
use Rattle.pres_tree.specs.Paths.{Path, same_path}
use Rattle.pres_ids.specs.declared.id.SessionId.{SessionId}
use Rattle.pres_fan.specs.Listeners.{add_path, is_touched}
use Rattle.pres_log.specs.declared.entry.Entry.{Entry}
use Rattle.pres_log.specs.declared.entry.Entry.TheVariants as entry
use Rattle.pres_log.specs.Logs.{writes_of}
use Rattle.pres_history.specs.Sessions.{own}

-- an On adds its path, once, and an Off takes it away
abbrev pub listens_after : List Path → Entry → List Path
listens_after paths (entry.On s q path) = add_path path paths
listens_after paths (entry.Off s q path) = filter (λ p. not (same_path path p)) paths
listens_after paths _ = paths

-- the paths that a session listens to, in path order
abbrev pub listened : SessionId → List Entry → List Path
listened s entries = fold listens_after [] (own s entries)

-- those that a write of the entry, the last of these, touches
abbrev pub touched : SessionId → List Entry → Entry → List Path
touched s now e = filter (is_touched (writes_of e)) (listened s now)
