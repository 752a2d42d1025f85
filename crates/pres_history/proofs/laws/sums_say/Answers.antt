use Rattle.pres_history.proofs.Whole.{sum_says}
use Rattle.pres_history.proofs.laws.sums_say.Goals as goal

pub returns : goal.returns
returns c = sum_says
