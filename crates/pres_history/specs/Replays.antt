-- Servers that are rebuilt from their log.
use Rattle.std.specs.Prelude.{map}
use Rattle.pres_log.specs.Logs.{Log, entries, last_moment}
use Rattle.pres_server.specs.ServerStates.{Heard}
use Rattle.pres_history.specs.Sessions.{open_entries}
use Rattle.pres_history.specs.ServerStates.{ServerState}

-- the client of each open session counts as heard of at the log's greatest moment
abbrev pub heard_anew : Log → Heard
heard_anew log = map (λ e. (e.0, last_moment log)) (open_entries (entries log))

-- the server that is made from a log
abbrev pub made_from : Log → ServerState
made_from log = record { log = log; heard = heard_anew log }
