use Rattle.pres_keeper.proofs.Nulls.{nothing_base}
use Rattle.pres_saved.proofs.sql.SqlKeeper.load_base.Goals as goal

pub returns-in_default-clause-holds : goal.returns-in_default-clause-holds
returns-in_default-clause-holds g c = nothing_base
