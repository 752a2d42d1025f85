use Rattle.std.proofs.Common.{subst}
use Rattle.pres_server.specs.SumTurns.{FollowAll}
use Rattle.pres_keeper.specs.Keepers.{IsNoLogAfter, base_sum}
use Rattle.pres_keeper.proofs.Behind.{leads_all}
use Rattle.pres_inspect.specs.Copies.{history_of}
use Rattle.pres_inspect.proofs.found.legal_only.Goals as goal

pub returns-in-Ok-clause-leads : goal.returns-in-Ok-clause-leads
returns-in-Ok-clause-leads c =
    let found = c.args.found in
    leads_all (base_sum found.base) found.batches.items c.requires.base (subst (FollowAll (base_sum found.base)) c.as_slice.ensures.value c.in-Ok.ensures.legal)

pub returns-in-Err-clause-refused : goal.returns-in-Err-clause-refused
returns-in-Err-clause-refused c =
    let found = c.args.found in
    c.refused_batch.ensures (history_of found) (subst (λ log. IsNoLogAfter (base_sum found.base) log c.in-Err.fault) c.as_slice.ensures.value c.in-Err.ensures.refused)
