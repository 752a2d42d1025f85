use Rattle.pres_fan.proofs.Rows.{find_touched}
use Rattle.pres_fan.proofs.laws.touched_tells.Goals as goal

pub returns : goal.returns
returns c = find_touched
