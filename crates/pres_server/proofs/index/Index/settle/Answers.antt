use Rattle.std.proofs.Common.{Result, Ok, Err, OnErr}
use Rattle.pres_server.proofs.Alike.{same_alike}
use Rattle.pres_server.proofs.index.Index.settle.Goals as goal

refused : {A E P : Type 0} (r : Result A E) → P → OnErr r P
refused (Ok a) p = tt
refused (Err e) p = p

pub returns-in_err-leave-in-Left-clause-alike : goal.returns-in_err-leave-in-Left-clause-alike
returns-in_err-leave-in-Left-clause-alike c =
    refused c.from_residual-in_err-leave-in-Left.result (same_alike c.args.self.now c.leave.new.self c.in-Left.session.client c.in_err-leave-in-Left.ensures.unchanged c.in_err-leave-in-Left.ensures.gone)

pub returns-in_err-cancel-in-Cancelled-clause-alike : goal.returns-in_err-cancel-in-Cancelled-clause-alike
returns-in_err-cancel-in-Cancelled-clause-alike c =
    refused c.from_residual-in_err-cancel-in-Cancelled.result (same_alike c.args.self.now c.cancel.new.self c.in-Cancelled.session.client c.in_err-cancel-in-Cancelled.ensures.unchanged c.in_err-cancel-in-Cancelled.ensures.gone)
