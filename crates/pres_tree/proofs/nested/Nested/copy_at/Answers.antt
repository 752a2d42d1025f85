use Rattle.pres_tree.proofs.Standing.{fits_copied}
use Rattle.pres_tree.proofs.nested.Nested.copy_at.Goals as goal

pub returns-in-Some-clause-fits : goal.returns-in-Some-clause-fits
returns-in-Some-clause-fits g c =
    fits_copied c.args.path.now c.args.self.now c.in-Some.value.now c.copy.result c.is_empty.ensures.value c.in-Some.ensures.2 c.copy.ensures
