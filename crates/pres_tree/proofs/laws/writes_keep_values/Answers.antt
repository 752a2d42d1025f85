use Rattle.pres_tree.proofs.Values.{value_after}
use Rattle.pres_tree.proofs.laws.writes_keep_values.Goals as goal

pub returns : goal.returns
returns c = value_after
