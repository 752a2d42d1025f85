use Rattle.pres_history.proofs.Whole.{legal_by_the_sum}
use Rattle.pres_history.proofs.laws.legal_by_the_sum.Goals as goal

pub returns : goal.returns
returns c = legal_by_the_sum
