use Rattle.pres_history.proofs.LegalLogs.{turn_is_legal}
use Rattle.pres_history.proofs.laws.turns_are_legal.Goals as goal

pub returns : goal.returns
returns c = turn_is_legal
