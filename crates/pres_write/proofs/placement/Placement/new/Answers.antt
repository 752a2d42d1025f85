use Rattle.std.proofs.Common.{arith}
use Rattle.pres_write.proofs.Depths.{value_depth, depth_fits}
use Rattle.pres_write.proofs.placement.Placement.new.Goals as goal

pub overflow_add-len : goal.overflow_add-len
overflow_add-len c = omega (arith, c.len.ensures.path.0, value_depth c.args.draft c.depth.ensures.value)

pub invariant_of-result : goal.invariant_of-result
invariant_of-result c = depth_fits c.args.path c.args.draft c.len.ensures.path c.depth.ensures.value (omega arith)
