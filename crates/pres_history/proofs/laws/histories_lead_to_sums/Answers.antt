use Rattle.pres_history.proofs.Histories.{history_holds}
use Rattle.pres_history.proofs.laws.histories_lead_to_sums.Goals as goal

pub returns : goal.returns
returns c = history_holds
