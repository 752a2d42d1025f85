-- A server that is made, and the history that leads to its sum.
use Rattle.std.proofs.Common.{◌≡◌, Result, Ok, Err, sym, subst}
use Rattle.std.specs.Result.{IfOk}
use Rattle.pres_log.specs.Logs.{Log}
use Rattle.pres_server.specs.Sums.{Sum, sum_from}
use Rattle.pres_server.specs.Replays.{resumed}
use Rattle.pres_server.specs.SumStates.{SumState}
use Rattle.pres_server.specs.SumTurns.{FollowAll}
use Rattle.pres_server.specs.Histories.{IsSum, History, LeadsTo}
use Rattle.pres_keeper.specs.Keepers.{SomeHistory, KeepsOneNull}
use Rattle.pres_keeper.proofs.Behind.{leads_all}
use Rattle.pres_keeper.proofs.Nulls.{nulls_from}

-- what holds of the history
pub served_so : {X E : Type 0} (sum_of : X → Sum) (P Q : History → Type 0) (r : Result X E) → ((history : History) → P history → Q history) → IfOk r (λ x. SomeHistory P (sum_of x)) → IfOk r (λ x. SomeHistory Q (sum_of x))
served_so sum_of P Q (Ok x) so some = record { history = some.history; leads = some.leads; held = so some.history some.held }
served_so sum_of P Q (Err e) so some = tt

-- batches that are replayed after a base lead to the server's sum
pub replayed : (base : Sum) (log : Log) (s : SumState) → IsSum base → s ≡ resumed (sum_from base log) → FollowAll base log → LeadsTo (record { base = base; log = log }) s.sum
replayed base log s k is legal = subst (λ (t : SumState). LeadsTo (record { base = base; log = log }) t.sum) (sym is) (leads_all base log k legal)

-- which keeps one null, where the base does
pub replayed_nulls : (base : Sum) (log : Log) (s : SumState) → KeepsOneNull base → s ≡ resumed (sum_from base log) → FollowAll base log → KeepsOneNull s.sum
replayed_nulls base log s k is legal = subst (λ (t : SumState). KeepsOneNull t.sum) (sym is) (nulls_from log base legal k)
