use Rattle.tests_of_groups.proofs.tests.a_checkpoint_waits_for_its_rise.Given as goal

abbrev pub ghosts-checkpoints_over : goal.ghosts-checkpoints_over
ghosts-checkpoints_over g a = record { name = a.blank.name; parts = a.blank.parts }
