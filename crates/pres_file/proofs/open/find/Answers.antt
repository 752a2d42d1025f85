use Rattle.pres_file.proofs.open.find.Goals as goal

pub returns-in-Ok-clause-holds : goal.returns-in-Ok-clause-holds
returns-in-Ok-clause-holds g c clean = (c.in-Ok.ensures.found clean).holds
