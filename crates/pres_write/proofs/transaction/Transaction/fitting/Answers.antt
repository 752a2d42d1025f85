use Rattle.std.proofs.Common.{refl}
use Rattle.pres_write.proofs.transaction.Transaction.fitting.Goals as goal

pub invariant_of-result : goal.invariant_of-result
invariant_of-result c = record { expect = c.requires.expect; new = c.requires.new }

pub returns : goal.returns
returns c = refl
