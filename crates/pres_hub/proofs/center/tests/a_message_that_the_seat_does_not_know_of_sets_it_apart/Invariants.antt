use Rattle.pres_hub.proofs.center.tests.a_message_that_the_seat_does_not_know_of_sets_it_apart.Given as goal

abbrev pub ghosts-second_of_alice : goal.ghosts-second_of_alice
ghosts-second_of_alice g a = record { name = a.blank.name; parts = a.blank.parts }
