use Rattle.pres_base.proofs.AnswersApart as apart
use Rattle.pres_base.proofs.laws.all_are_above_zero.Goals as goal

pub returns : goal.returns
returns c = apart.all_above_zero
