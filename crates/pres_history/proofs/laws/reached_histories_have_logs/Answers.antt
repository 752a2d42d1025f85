use Rattle.pres_history.proofs.Histories.{reached_has_log}
use Rattle.pres_history.proofs.laws.reached_histories_have_logs.Goals as goal

pub returns : goal.returns
returns c = reached_has_log
