-- What a server is by its log.
use Rattle.std.specs.Prelude.{[]}
use Rattle.pres_log.specs.Logs.{Log}
use Rattle.pres_server.specs.ServerStates.{Heard}

-- what a server is: its log, and when each client was heard of last
pub record ServerState : Type 0 where
  pub log : Log
  pub heard : Heard

-- a server without a history
abbrev pub blank : ServerState
blank = record { log = []; heard = [] }
