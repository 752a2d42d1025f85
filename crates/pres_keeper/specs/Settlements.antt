-- A turn that isn't done after all.
use Rattle.std.specs.Prelude.{◌≡◌}
use Rattle.pres_log.specs.Logs.{Log}
use Rattle.pres_server.specs.Histories.{History, with_batch, with_batches}
use Rattle.pres_server.specs.SumStates.{SumState, PendingTurn}
use Rattle.pres_server.specs.SumTurns.{batch_by}
use Rattle.pres_keeper.specs.Keepers.{IsOfStore}
use Rattle.pres_keeper.specs.declared.settlement.Unsettled.{Unsettled}
use Rattle.pres_keeper.specs.declared.settlement.Unsettled.TheVariants.{Refused, Reopen}

-- a batch that memory or the database refused leaves the server as it was
abbrev pub IsUnsettled : SumState → Unsettled → Type 0
IsUnsettled before (Refused e server) = (server ≡ before) × IsOfStore e
IsUnsettled before Reopen = Unit {0}

-- the history with the turn's batch
abbrev pub history_with : History → PendingTurn → History
history_with history busy = with_batch history (batch_by busy.state.sum busy.moment busy.made)

-- the keeper holds the history of before where it refused, and else the history with the batch
abbrev pub KeepsUnsettled : (History → Type 0) → History → PendingTurn → Unsettled → Type 0
KeepsUnsettled keeps history busy (Refused e server) = keeps history
KeepsUnsettled keeps history busy Reopen = keeps (history_with history busy)

-- the same of batches that are committed together
abbrev pub KeepsUnsettledAll : (History → Type 0) → History → Log → Unsettled → Type 0
KeepsUnsettledAll keeps history batches (Refused e server) = keeps history
KeepsUnsettledAll keeps history batches Reopen = keeps (with_batches history batches)

-- what was committed outlasts the next crash, though the server went down
abbrev pub LastsUnsettled : (History → Type 0) → History → Unsettled → Type 0
LastsUnsettled outlasts history (Refused e server) = Unit {0}
LastsUnsettled outlasts history Reopen = outlasts history
