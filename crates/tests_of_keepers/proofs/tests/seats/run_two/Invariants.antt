use Rattle.tests_of_keepers.proofs.tests.seats.run_two.Given as goal

abbrev pub ghosts-run : goal.ghosts-run
ghosts-run g a = record { name = a.blank.name; parts = a.blank.parts }
