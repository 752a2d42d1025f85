use Rattle.tests_of_keepers.proofs.tests.lists.each_message_of_a_list_is_answered_in_its_place.Given as goal

abbrev pub ghosts-unordered_with : goal.ghosts-unordered_with
ghosts-unordered_with g a = record { name = a.blank.name; parts = a.blank.parts }
