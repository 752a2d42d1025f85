use Rattle.pres_history.proofs.Histories.{history_grows}
use Rattle.pres_history.proofs.laws.histories_grow.Goals as goal

pub returns : goal.returns
returns c = history_grows
