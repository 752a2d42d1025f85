use Rattle.pres_history.proofs.Whole.{sums_decide}
use Rattle.pres_history.proofs.laws.sums_decide.Goals as goal

pub returns : goal.returns
returns c = sums_decide
