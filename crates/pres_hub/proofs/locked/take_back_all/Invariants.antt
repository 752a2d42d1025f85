use Rattle.std.proofs.Common.{vec_len}
use Rattle.std.specs.VecDeque.{deque_len}
use Rattle.pres_hub.proofs.locked.take_back_all.Given as goal

abbrev pub decreases-waiting : goal.decreases-waiting
decreases-waiting g l = deque_len l.waiting

abbrev pub decreases-answered : goal.decreases-answered
decreases-answered g l = vec_len l.answered
