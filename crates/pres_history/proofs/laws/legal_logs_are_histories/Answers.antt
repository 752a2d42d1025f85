use Rattle.pres_history.proofs.Histories.{legal_is_history}
use Rattle.pres_history.proofs.laws.legal_logs_are_histories.Goals as goal

pub returns : goal.returns
returns c = legal_is_history
