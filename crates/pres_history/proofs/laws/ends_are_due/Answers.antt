use Rattle.pres_history.proofs.LegalLogs.{ends_are_due}
use Rattle.pres_history.proofs.laws.ends_are_due.Goals as goal

pub returns : goal.returns
returns c = ends_are_due
