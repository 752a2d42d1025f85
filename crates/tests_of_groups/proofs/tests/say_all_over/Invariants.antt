use Rattle.std.specs.Vec.Iter.{into_iter_len}
use Rattle.tests_of_groups.proofs.tests.say_all_over.Given as goal

abbrev pub decreases-answers : goal.decreases-answers
decreases-answers g l = into_iter_len l.rest
