use Rattle.pres_history.proofs.Whole.{heard_same}
use Rattle.pres_history.proofs.laws.resumed_as_the_log.Goals as goal

pub returns : goal.returns
returns c = heard_same
