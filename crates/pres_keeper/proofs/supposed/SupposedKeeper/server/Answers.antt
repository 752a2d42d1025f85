use Rattle.std.proofs.Common.{ℕ, arith}
use Rattle.std.proofs.lemmas.Grind.{common_steps}
use Rattle.pres_server.specs.SumStates.{SumState}
use Rattle.pres_keeper.proofs.Running.{served_so}
use Rattle.pres_keeper.proofs.supposed.SupposedKeeper.server.Goals as goal

pub returns-clause-exact : goal.returns-clause-exact
returns-clause-exact g c = grind (arith, common_steps)

pub returns-clause-number : goal.returns-clause-number
returns-clause-number g c = grind (arith, common_steps)

pub returns-clause-server : goal.returns-clause-server
returns-clause-server g c = served_so (λ (made : SumState × ℕ). made.0.sum) _ _ c.server.result (λ history kept _ works. kept (c.self.invariant works.0) works.1) c.server.ensures.server
