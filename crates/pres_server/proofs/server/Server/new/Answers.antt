use Rattle.std.proofs.Common.{◌∙◌, ap, sym, subst, map}
use Rattle.pres_ids.specs.Ids.{ClientId}
use Rattle.pres_server.specs.InternalSessions.{Session}
use Rattle.pres_server.specs.Histories.{IsSum}
use Rattle.pres_server.specs.InternalSums.{sum_in}
use Rattle.pres_server.proofs.SumServers.{nothing_holds}
use Rattle.pres_server.proofs.server.Server.new.Goals as goal

pub invariant_of-result : goal.invariant_of-result
invariant_of-result c = subst IsSum (sym (ap (λ m. sum_in 0 m 0 c.new.result) c.at.ensures ∙ c.new.ensures.sum)) nothing_holds

pub returns : goal.returns
returns c = λ i. record {
  sum = (ap (λ m. sum_in 0 m 0 c.new.result) c.at.ensures ∙ c.new.ensures.sum) i;
  heard = ap (map (λ (e : ClientId × Session). (e.0, e.1.heard))) c.new.ensures.nobody i;
}
