-- Transactions: a new draft for a place, if that holds the expected value.
use Rattle.pres_tree.specs.declared.scalar.Scalar.{Scalar}
use Rattle.pres_tree.specs.Paths.{Path}
use Rattle.pres_tree.specs.Rows.{Rows, Fits}
use Rattle.pres_write.specs.declared.draft.DraftLeaf.{DraftLeaf}

pub record Comparison : Type 0 where
  pub path : Path
  pub expect : Rows Scalar
  pub new : Rows DraftLeaf

abbrev pub comparison : Path → Rows Scalar → Rows DraftLeaf → Comparison
comparison path expect new = record { path = path; expect = expect; new = new }

-- what every transaction keeps
pub record IsTransaction (t : Comparison) : Type 0 where
  pub expect : Fits t.path t.expect
  pub new : Fits t.path t.new
