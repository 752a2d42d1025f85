use Rattle.pres_base.proofs.AnswersApart as apart
use Rattle.pres_base.proofs.laws.rests_are_bases.Goals as goal

pub returns : goal.returns
returns c = apart.rest_is_base
