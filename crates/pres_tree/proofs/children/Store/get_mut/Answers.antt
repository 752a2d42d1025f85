use Rattle.std.proofs.Common.{refl, ap}
use Rattle.pres_tree.specs.declared.children.Store.TheVariants.{Few, Many}
use Rattle.pres_tree.proofs.children.Store.get_mut.Goals as goal

pub returns-in-Few : goal.returns-in-Few
returns-in-Few g c =
    rw c.in-Few.is (
      (refl, (rw c.in-Few.is at c.few_mut.follows.holds), ap Few (rw c.in-Few.is at c.few_mut.follows.holds-at-none)),
      record { writes_back = tt; value = (rw c.in-Few.is at c.few_mut.ensures.value) },
    )

pub returns-in-Many : goal.returns-in-Many
returns-in-Many g c =
    rw c.in-Many.is (
      (refl, (λ w. rw c.in-Many.is at (c.get_mut.follows.holds w).0), ap Many (rw c.in-Many.is at c.get_mut.follows.holds-at-none)),
      record { writes_back = tt; value = (rw c.in-Many.is at c.get_mut.ensures.value) },
    )
