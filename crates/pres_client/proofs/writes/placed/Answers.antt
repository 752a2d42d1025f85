use Rattle.std.proofs.Common.{arith}
use Rattle.pres_write.proofs.Depths.{value_depth}
use Rattle.pres_client.proofs.writes.placed.Goals as goal

pub overflow_add-len : goal.overflow_add-len
overflow_add-len c = omega (arith, c.len.ensures.path.0, value_depth c.args.draft c.depth.ensures.value)
