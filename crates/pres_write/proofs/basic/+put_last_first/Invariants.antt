use Rattle.std.proofs.Common.{length}
use Rattle.pres_write.proofs.basic.+put_last_first.Given as goal

abbrev pub decreases-put_last_first : goal.decreases-put_last_first
decreases-put_last_first l = length l.writes.now.items
