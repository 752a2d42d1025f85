use Rattle.std.proofs.Common.{arith}
use Rattle.std.proofs.lemmas.Grind.{common_steps}
use Rattle.pres_tree.proofs.scalar.ScalarFormPrintedFormScalar.print.Goals as goal

pub returns-in-Int-clause-json : goal.returns-in-Int-clause-json
returns-in-Int-clause-json c = grind (arith, common_steps)
