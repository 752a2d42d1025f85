use Rattle.std.proofs.Common.{◌∙◌, sym, ap, subst}
use Rattle.pres_tree.specs.Rows.{Rows, Fits, rows_in, value_at}
use Rattle.pres_tree.specs.declared.scalar.Scalar.{Scalar}
use Rattle.pres_write.proofs.Fitting.{fits_settled}
use Rattle.pres_write.proofs.Held.{rows_of_option, one_form}
use Rattle.pres_write.proofs.basic.settled_write.Goals as goal

pub invariant_of-result : goal.invariant_of-result
invariant_of-result c =
    let made = c.some_value-value.ensures in
    let held = ap rows_in made ∙ rows_of_option c.in_ok-settle_at.field-0 ∙ c.in_ok-settle_at.ensures in
    record {
      fits = subst (λ (u : Rows Scalar). Fits c.args.path u) (sym held) (fits_settled c.args.path c.args.draft.now (value_at c.args.path c.args.tree.now) c.args.moment c.requires);
      one_form = one_form _ c.in_ok-settle_at.field-0 made;
    }
