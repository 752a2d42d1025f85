-- Histories that keepers wrote, and nobody else.
use Rattle.std.specs.Prelude.{◌++◌}
use Rattle.pres_log.specs.Logs.{Log}
use Rattle.pres_server.specs.Sums.{Sum, nothing}
use Rattle.pres_server.specs.SumTurns.{FollowAll}
use Rattle.pres_server.specs.Histories.{History, LeadsTo, whole, with_batches, begun_at}

-- An empty one; then, as `commit` and `commit_all` keep them, batches that may follow; and, as `checkpoint` keeps it, the
-- sum to which all that leads.
pub data IsWritten : History → Type 0 where
  made : IsWritten (begun_at nothing)
  committed : {history : History} (sum : Sum) (batches : Log) → IsWritten history → LeadsTo history sum → FollowAll sum batches → IsWritten (with_batches history batches)
  checkpointed : {history : History} (sum : Sum) → IsWritten history → LeadsTo history sum → IsWritten (begun_at sum)

-- a legal log, one whose batches follow from nothing one after another, leads to the sum
pub record IsReached (sum : Sum) : Type 0 where
  pub log : Log
  pub leads : LeadsTo (whole log) sum

-- A legal log leads to the base of such a history, and the whole is legal: that log with the batches since leads where the
-- history leads.
pub record IsWhole (history : History) (sum : Sum) : Type 0 where
  pub base : IsReached history.base
  pub legal : LeadsTo (whole (base.log ++ history.log)) sum

abbrev pub WrittenIsWhole : History → Sum → Type 0
WrittenIsWhole history sum = IsWritten history → LeadsTo history sum → IsWhole history sum
