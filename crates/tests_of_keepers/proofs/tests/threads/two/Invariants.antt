use Rattle.tests_of_keepers.proofs.tests.threads.two.Given as goal

abbrev pub ghosts-two_with : goal.ghosts-two_with
ghosts-two_with g a = record { name = a.blank.name; parts = a.blank.parts }
