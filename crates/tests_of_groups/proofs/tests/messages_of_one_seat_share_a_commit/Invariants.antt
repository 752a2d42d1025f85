use Rattle.tests_of_groups.proofs.tests.messages_of_one_seat_share_a_commit.Given as goal

abbrev pub ghosts-say_all_over : goal.ghosts-say_all_over
ghosts-say_all_over g a = record { name = a.blank.name; parts = a.blank.parts }
