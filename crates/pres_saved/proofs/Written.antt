-- A history that keepers wrote, and nobody else, is the end of a legal log.
use Rattle.std.proofs.Common.{[], ◌++◌}
use Rattle.pres_server.specs.Sums.{Sum, nothing}
use Rattle.pres_server.specs.Histories.{History, whole}
use Rattle.pres_server.proofs.SumServers.{nothing_holds}
use Rattle.pres_keeper.proofs.Behind.{leads_begun, leads_both}
use Rattle.pres_saved.specs.WrittenHistories.{IsWritten, made, committed, checkpointed, IsReached, WrittenIsWhole}

reached : {history : History} → IsWritten history → IsReached history.base
reached made = record { log = []; leads = leads_begun nothing nothing_holds }
reached (committed sum batches w leads follow) = reached w
reached (checkpointed {history} sum w leads) =
    let before = reached w in
    record { log = before.log ++ history.log; leads = leads_both (whole before.log) history sum before.leads leads }

pub written_is_whole : (history : History) (sum : Sum) → WrittenIsWhole history sum
written_is_whole history sum w leads = record { base = reached w; legal = leads_both (whole (reached w).log) history sum (reached w).leads leads }
