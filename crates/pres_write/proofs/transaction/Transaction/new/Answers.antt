use Rattle.std.proofs.Common.{arith}
use Rattle.pres_write.proofs.Depths.{value_depth, depth_fits}
use Rattle.pres_write.proofs.transaction.Transaction.new.Goals as goal

pub overflow_add-keys : goal.overflow_add-keys
overflow_add-keys c = omega (arith, c.len-keys.ensures.len, c.len-keys.ensures.path.0, c.depth.ensures.depth, value_depth c.args.expect c.depth.ensures.value)

pub overflow_add-keys-else-keys-depth-gt-MAX_DEPTH : goal.overflow_add-keys-else-keys-depth-gt-MAX_DEPTH
overflow_add-keys-else-keys-depth-gt-MAX_DEPTH c =
    let depth = c.depth-else-keys-depth-gt-MAX_DEPTH.ensures in
    omega (arith, c.len-keys.ensures.len, c.len-keys.ensures.path.0, depth.depth, value_depth c.args.new depth.value)

pub invariant_of-result : goal.invariant_of-result
invariant_of-result c =
    let len = c.len-keys.ensures in
    let deep = c.depth.ensures in
    let depth = c.depth-else-keys-depth-gt-MAX_DEPTH.ensures in
    record {
      expect = depth_fits c.args.path c.args.expect len.path deep.value (omega (arith, len.len, deep.depth, c.if-keys-depth-gt-MAX_DEPTH.false));
      new = depth_fits c.args.path c.args.new len.path depth.value (omega (arith, len.len, depth.depth, c.if-keys-depth-gt-MAX_DEPTH-2.false));
    }
