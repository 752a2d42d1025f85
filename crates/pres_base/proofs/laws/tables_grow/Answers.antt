use Rattle.pres_base.proofs.AnswersApart as apart
use Rattle.pres_base.proofs.laws.tables_grow.Goals as goal

pub returns : goal.returns
returns c = apart.tables_grow
