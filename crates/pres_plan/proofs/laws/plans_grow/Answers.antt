use Rattle.pres_plan.proofs.Grows.{plan_grows}
use Rattle.pres_plan.proofs.laws.plans_grow.Goals as goal

pub returns : goal.returns
returns c = plan_grows
