use Rattle.tests_of_service.proofs.tests.checkpoints.checkpoint_after.Given as goal

abbrev pub ghosts-reached : goal.ghosts-reached
ghosts-reached g a = record { name = a.blank.name; parts = a.blank.parts }
