use Rattle.pres_plan.proofs.Cancels.{cancel_keeps}
use Rattle.pres_plan.proofs.laws.cancels_keep.Goals as goal

pub returns : goal.returns
returns c = cancel_keeps
