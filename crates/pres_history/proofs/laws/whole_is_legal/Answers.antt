use Rattle.pres_history.proofs.Whole.{whole_is_legal}
use Rattle.pres_history.proofs.laws.whole_is_legal.Goals as goal

pub returns : goal.returns
returns c = whole_is_legal
