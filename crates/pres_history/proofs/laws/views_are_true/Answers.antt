use Rattle.pres_history.proofs.Views.{views_are_true}
use Rattle.pres_history.proofs.laws.views_are_true.Goals as goal

pub returns : goal.returns
returns c = views_are_true
