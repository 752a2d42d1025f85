use Rattle.tests_of_keepers.proofs.tests.threads.four.Given as goal

abbrev pub ghosts-four_with : goal.ghosts-four_with
ghosts-four_with g a = record { name = a.blank.name; parts = a.blank.parts }
