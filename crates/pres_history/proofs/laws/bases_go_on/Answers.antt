use Rattle.pres_history.proofs.Bases.{base_goes_on}
use Rattle.pres_history.proofs.laws.bases_go_on.Goals as goal

pub returns : goal.returns
returns c = base_goes_on
