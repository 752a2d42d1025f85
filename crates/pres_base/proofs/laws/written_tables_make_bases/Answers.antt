use Rattle.pres_base.proofs.AnswersApart as apart
use Rattle.pres_base.proofs.laws.written_tables_make_bases.Goals as goal

pub returns : goal.returns
returns c = apart.written_tables_make_base
