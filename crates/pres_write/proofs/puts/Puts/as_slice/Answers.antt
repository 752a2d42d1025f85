use Rattle.std.proofs.Common.{subst}
use Rattle.pres_write.specs.Unconditionals.{ArePuts}
use Rattle.pres_write.proofs.Puttable.{puts_pass}
use Rattle.pres_write.proofs.puts.Puts.as_slice.Goals as goal

pub returns-clause-puts : goal.returns-clause-puts
returns-clause-puts c = puts_pass c.args.self.now (subst ArePuts c.self.view_is c.self.invariant)
