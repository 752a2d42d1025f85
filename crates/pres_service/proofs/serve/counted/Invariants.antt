use Rattle.pres_service.proofs.serve.counted.Given as goal

abbrev pub ghosts-served : goal.ghosts-served
ghosts-served g a = record { name = a.blank.name; parts = a.blank.parts }
