use Rattle.pres_log.proofs.Entries.{tree-append}
use Rattle.pres_log.proofs.laws.trees_go_on.Goals as goal

pub returns : goal.returns
returns c = tree-append
