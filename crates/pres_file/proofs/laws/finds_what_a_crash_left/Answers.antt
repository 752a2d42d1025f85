use Rattle.pres_file.proofs.Left.{finds_what_was_left}
use Rattle.pres_file.proofs.laws.finds_what_a_crash_left.Goals as goal

pub returns : goal.returns
returns g c = finds_what_was_left g.D.Disk g.E.Disk
