use Rattle.std.proofs.Common.{sym, subst}
use Rattle.pres_tree.specs.Rows.{Rows, Fits, value_at}
use Rattle.pres_tree.specs.declared.scalar.Scalar.{Scalar}
use Rattle.pres_write.proofs.Fitting.{fits_settled}
use Rattle.pres_write.proofs.basic.moved_write.Goals as goal

pub fitting-requires : goal.fitting-requires
fitting-requires c =
    subst (λ (u : Rows Scalar). Fits c.args.path u) (sym c.in_ok-value.ensures) (fits_settled c.args.path c.args.draft (value_at c.args.path c.args.tree.now) c.args.moment c.requires)
