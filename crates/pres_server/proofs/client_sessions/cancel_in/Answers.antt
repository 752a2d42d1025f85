use Rattle.std.proofs.Common.{List, sym, subst}
use Rattle.pres_plan.specs.declared.row.PlanRow.{PlanRow}
use Rattle.pres_plan.specs.Plans.{ComesLast}
use Rattle.pres_plan.proofs.Orders.{later_comes_last}
use Rattle.pres_server.proofs.client_sessions.cancel_in.Goals as goal

pub cancel-requires : goal.cancel-requires
cancel-requires c = record {
  last = subst (λ (rows : List PlanRow). ComesLast c.args.q c.args.path.now rows) (sym c.plan_mut.ensures.value)
      (later_comes_last c.args.q c.args.path.now c.args.live.now.plan c.requires.may.later);
}
