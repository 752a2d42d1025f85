use Rattle.pres_tree.proofs.Last.{last_write_decides}
use Rattle.pres_tree.proofs.laws.last_write_decides.Goals as goal

pub returns : goal.returns
returns c = last_write_decides
