use Rattle.tests_of_keepers.proofs.tests.lists.sixteen_threads_share_commits.Given as goal

abbrev pub ghosts-written_with : goal.ghosts-written_with
ghosts-written_with g a = record { name = a.blank.name; parts = a.blank.parts }
