use Rattle.std.proofs.Common.{ap, subst}
use Rattle.pres_tree.specs.Paths.{IsPath}
use Rattle.pres_tree.specs.Rows.{Fits}
use Rattle.pres_write.proofs.transaction.Transaction.path.Goals as goal

pub returns-clause-path : goal.returns-clause-path
returns-clause-path c = ap (λ t. t.path) c.self.view_is

pub returns-clause-keys : goal.returns-clause-keys
returns-clause-keys c = subst (λ t. IsPath t.path) c.self.view_is c.len.ensures.path

pub returns-clause-expect : goal.returns-clause-expect
returns-clause-expect c = subst (λ t. Fits t.path t.expect) c.self.view_is c.self.invariant.expect

pub returns-clause-new : goal.returns-clause-new
returns-clause-new c = subst (λ t. Fits t.path t.new) c.self.view_is c.self.invariant.new
