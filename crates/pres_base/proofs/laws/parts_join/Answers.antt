use Rattle.pres_base.proofs.AnswersApart as apart
use Rattle.pres_base.proofs.laws.parts_join.Goals as goal

pub returns : goal.returns
returns c = apart.parts_join
