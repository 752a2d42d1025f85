use Rattle.std.proofs.lemmas.Result.{on_ok_weaker}
use Rattle.pres_inspect.proofs.Printing.{some_history}
use Rattle.pres_inspect.proofs.check.check_run.Goals as goal

pub returns : goal.returns
returns g c = record { checked = on_ok_weaker c.check_copied.result (some_history _ _ _ _) c.check_copied.ensures.checked }
