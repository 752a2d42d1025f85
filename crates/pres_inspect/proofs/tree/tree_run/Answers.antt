use Rattle.std.proofs.lemmas.Result.{on_ok_weaker}
use Rattle.pres_inspect.proofs.Printing.{some_history}
use Rattle.pres_inspect.proofs.tree.tree_run.Goals as goal

pub returns : goal.returns
returns g c = record { shown = on_ok_weaker c.tree_of.result (some_history _ _ _ _) c.tree_of.ensures.shown }
