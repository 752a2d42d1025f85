use Rattle.std.proofs.Common.{◌≡◌, subst}
use Rattle.std.specs.Prelude.{IfOk}
use Rattle.pres_write.proofs.draft.settle_at.Goals as goal

pub returns : goal.returns
returns c = subst (λ v. IfOk c.settle.result (λ t. t ≡ v)) c.held_for.ensures c.settle.ensures
