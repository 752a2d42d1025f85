use Rattle.tests_of_groups.proofs.tests.a_refused_checkpoint_is_due_again.Given as goal

abbrev pub ghosts-checkpoints_over : goal.ghosts-checkpoints_over
ghosts-checkpoints_over g a = record { name = a.blank.name; parts = a.blank.parts }
