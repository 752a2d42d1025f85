use Rattle.pres_base.proofs.AnswersApart as apart
use Rattle.pres_base.proofs.laws.no_tables_add_none.Goals as goal

pub returns : goal.returns
returns c = apart.no_tables_add_none
