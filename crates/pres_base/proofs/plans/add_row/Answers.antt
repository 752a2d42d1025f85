use Rattle.pres_base.proofs.Fronts.{comes_last}
use Rattle.pres_base.proofs.plans.add_row.Goals as goal

pub put-left-requires : goal.put-left-requires
put-left-requires c = record { last = comes_last c.args.plan.now c.args.row c.in-Put.is c.requires.in_order }

pub cancel-left-requires : goal.cancel-left-requires
cancel-left-requires c = record { last = comes_last c.args.plan.now c.args.row c.in-Keep.is c.requires.in_order }
