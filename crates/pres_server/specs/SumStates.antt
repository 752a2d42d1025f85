-- What a server is by its sum.
use Rattle.std.specs.Prelude.{ℕ, List, []}
use Rattle.pres_log.specs.declared.entry.Entry.{Entry}
use Rattle.pres_server.specs.ServerStates.{Heard}
use Rattle.pres_server.specs.Sums.{Sum, nothing}

-- what a server is: its sum, and when each client was heard of last
pub record SumState : Type 0 where
  pub sum : Sum
  pub heard : Heard

-- a server without a history
abbrev pub blank : SumState
blank = record { sum = nothing; heard = [] }

-- a turn that waits for the commit of its batch
pub record PendingTurn : Type 0 where
  pub state : SumState
  pub moment : ℕ
  pub made : List Entry
