use Rattle.tests_of_service.proofs.tests.connections.served.Given as goal

abbrev pub ghosts-served_with : goal.ghosts-served_with
ghosts-served_with g a = record { name = a.blank.name; parts = a.blank.parts }
