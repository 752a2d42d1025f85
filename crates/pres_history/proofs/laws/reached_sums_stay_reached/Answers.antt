use Rattle.pres_history.proofs.Whole.{reached_stays}
use Rattle.pres_history.proofs.laws.reached_sums_stay_reached.Goals as goal

pub returns : goal.returns
returns c = reached_stays
