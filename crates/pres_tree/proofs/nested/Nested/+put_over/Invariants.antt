use Rattle.std.proofs.Common.{length}
use Rattle.pres_tree.proofs.nested.Nested.+put_over.Given as goal

abbrev pub decreases-put_over : goal.decreases-put_over
decreases-put_over g l = length l.keys.now
