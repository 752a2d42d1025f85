use Rattle.std.proofs.Common.{sym, subst, ◌∙◌}
use Rattle.pres_write.specs.Transactions.{IsTransaction, comparison}
use Rattle.pres_write.proofs.transaction.Transaction.copy.Goals as goal

pub invariant_of-result : goal.invariant_of-result
invariant_of-result c = subst IsTransaction (sym (λ i. comparison (c.in_ok-path.ensures i) (c.in_ok-expect.ensures i) (c.in-Ok.ensures i))) c.self.invariant

pub returns : goal.returns
returns c = (λ i. comparison (c.in_ok-path.ensures i) (c.in_ok-expect.ensures i) (c.in-Ok.ensures i)) ∙ c.self.view_is
