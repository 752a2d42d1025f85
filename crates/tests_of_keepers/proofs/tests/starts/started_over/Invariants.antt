use Rattle.pres_saved.specs.SqlKeepers.{IsReady}
use Rattle.tests_of_keepers.proofs.tests.starts.started_over.Given as goal

-- what is taken for granted: what was found was made by our statements
abbrev pub ghosts-supposing : goal.ghosts-supposing
ghosts-supposing g a = record { holds = IsReady g.S.Store a.keeper }
