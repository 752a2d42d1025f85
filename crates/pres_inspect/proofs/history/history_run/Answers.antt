use Rattle.std.proofs.lemmas.Result.{on_ok_weaker}
use Rattle.pres_inspect.proofs.Printing.{some_history}
use Rattle.pres_inspect.proofs.history.history_run.Goals as goal

pub returns : goal.returns
returns g c = record { listed = on_ok_weaker c.history_of.result (some_history _ _ _ _) c.history_of.ensures.listed }
