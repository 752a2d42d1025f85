use Rattle.tests_of_service.proofs.tests.halts.expect_end.Given as goal

abbrev pub ghosts-served_with : goal.ghosts-served_with
ghosts-served_with g a = record { name = a.blank.name; parts = a.blank.parts }
