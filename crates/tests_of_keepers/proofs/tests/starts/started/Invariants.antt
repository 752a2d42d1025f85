use Rattle.tests_of_keepers.proofs.tests.starts.started.Given as goal

abbrev pub ghosts-started_with : goal.ghosts-started_with
ghosts-started_with g a = record { name = a.blank.name; parts = a.blank.parts }
