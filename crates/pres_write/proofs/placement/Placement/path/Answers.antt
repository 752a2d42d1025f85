use Rattle.std.proofs.Common.{ap, subst}
use Rattle.pres_tree.specs.Paths.{IsPath}
use Rattle.pres_tree.specs.Rows.{Fits}
use Rattle.pres_write.proofs.placement.Placement.path.Goals as goal

pub returns-clause-path : goal.returns-clause-path
returns-clause-path c = ap (λ p. p.0) c.self.view_is

pub returns-clause-keys : goal.returns-clause-keys
returns-clause-keys c = subst (λ p. IsPath p.0) c.self.view_is c.len.ensures.path

pub returns-clause-fits : goal.returns-clause-fits
returns-clause-fits c = subst (λ p. Fits p.0 p.1) c.self.view_is c.self.invariant
