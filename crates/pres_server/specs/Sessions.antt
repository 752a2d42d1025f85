-- The session of an entry.
use Rattle.pres_ids.specs.declared.id.SessionId.{SessionId}
use Rattle.pres_log.specs.declared.entry.Entry.{Entry}
use Rattle.pres_log.specs.declared.entry.Entry.TheVariants as entry

-- the session of an entry
abbrev pub session_of : Entry → SessionId
session_of (entry.Open s) = s
session_of (entry.Op s q n op outcome) = s
session_of (entry.Again s q n) = s
session_of (entry.Left s q puts) = s
session_of (entry.Cancelled s q path) = s
session_of (entry.Denied s q why) = s
session_of (entry.On s q path) = s
session_of (entry.Off s q path) = s
session_of (entry.Ended s q why rows) = s
