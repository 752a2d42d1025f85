use Rattle.tests_of_keepers.proofs.tests.scene.run.Given as goal

abbrev pub ghosts-run_with : goal.ghosts-run_with
ghosts-run_with g a = record { name = a.blank.name; parts = a.blank.parts }
