use Rattle.pres_history.proofs.Histories.{history_is_legal}
use Rattle.pres_history.proofs.laws.histories_are_legal_logs.Goals as goal

pub returns : goal.returns
returns c = history_is_legal
