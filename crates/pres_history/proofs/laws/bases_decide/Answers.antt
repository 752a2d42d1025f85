use Rattle.pres_history.proofs.Bases.{base_decides}
use Rattle.pres_history.proofs.laws.bases_decide.Goals as goal

pub returns : goal.returns
returns c = base_decides
