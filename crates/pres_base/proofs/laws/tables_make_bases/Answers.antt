use Rattle.pres_base.proofs.AnswersApart as apart
use Rattle.pres_base.proofs.laws.tables_make_bases.Goals as goal

pub returns : goal.returns
returns c = apart.tables_make_base
