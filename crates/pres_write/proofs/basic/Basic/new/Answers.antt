use Rattle.std.proofs.Common.{◌∙◌, sym, ap, subst, arith}
use Rattle.pres_tree.specs.Rows.{Rows, Fits, rows_in}
use Rattle.pres_tree.specs.declared.scalar.Scalar.{Scalar}
use Rattle.pres_write.proofs.Depths.{value_depth, depth_fits}
use Rattle.pres_write.proofs.Held.{rows_of_option, one_form}
use Rattle.pres_write.proofs.basic.Basic.new.Goals as goal

pub overflow_add-len : goal.overflow_add-len
overflow_add-len c = omega (arith, c.len.ensures.path.0, value_depth c.unwrap_or-value.result c.depth.ensures.value)

pub invariant_of-result : goal.invariant_of-result
invariant_of-result c =
    let v = c.unwrap_or-value.result in
    let made = c.some_value.ensures in
    let held = ap rows_in made ∙ rows_of_option v in
    record {
      fits = subst (λ (u : Rows Scalar). Fits c.args.path u) (sym held) (depth_fits c.args.path v c.len.ensures.path c.depth.ensures.value (omega arith));
      one_form = one_form _ v made;
    }
