use Rattle.pres_file.specs.FileOpening.{HoldsOurs}
use Rattle.pres_service.proofs.serve.granted.Given as goal

-- what is taken for granted: what was found was made by our statements
abbrev pub ghosts-supposing : goal.ghosts-supposing
ghosts-supposing g a = record { holds = HoldsOurs g.S.Store a.connection }
