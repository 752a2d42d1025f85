use Rattle.std.proofs.Common.{List, All, sym, subst}
use Rattle.pres_plan.specs.declared.row.PlanRow.{PlanRow}
use Rattle.pres_plan.specs.Plans.{ComesLast}
use Rattle.pres_plan.proofs.Orders.{later_update_comes_last}
use Rattle.pres_server.proofs.client_sessions.leave_in.Goals as goal

pub update-requires : goal.update-requires
update-requires c = record {
  last = subst (λ (rows : List PlanRow). All (λ p. ComesLast c.args.q p.0 rows) c.args.puts) (sym c.plan_mut.ensures.value)
      (later_update_comes_last c.args.q c.args.puts c.args.live.now.plan c.requires.may.later);
}
