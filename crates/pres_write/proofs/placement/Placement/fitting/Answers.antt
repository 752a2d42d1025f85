use Rattle.std.proofs.Common.{refl}
use Rattle.pres_write.proofs.placement.Placement.fitting.Goals as goal

pub invariant_of-result : goal.invariant_of-result
invariant_of-result c = c.requires

pub returns : goal.returns
returns c = refl
