use Rattle.std.proofs.Common.{◌≡◌, subst}
use Rattle.std.specs.Prelude.{IfOk}
use Rattle.pres_write.proofs.draft.settle_at_owned.Goals as goal

pub returns-in-Some : goal.returns-in-Some
returns-in-Some c = subst (λ v. IfOk c.settle-made.result (λ t. t ≡ v)) c.in-Some.ensures c.settle-made.ensures

pub returns-in-None : goal.returns-in-None
returns-in-None c = subst (λ v. IfOk c.settle_owned.result (λ t. t ≡ v)) c.in-None.ensures c.settle_owned.ensures
