-- What a session owes at its end.
use Rattle.std.specs.Prelude.{◌≡◌, ℕ, List}
use Rattle.pres_tree.specs.Rows.{Rows}
use Rattle.pres_tree.specs.declared.scalar.Scalar.{Scalar}
use Rattle.pres_write.specs.declared.basic.Basic.{Basic}

-- the plan owes these rows, by some tree and moment
pub record AreOwed {P : Type 0} (owed : P → Rows Scalar → ℕ → List Basic) (plan : P) (rows : List Basic) : Type 0 where
  pub tree : Rows Scalar
  pub moment : ℕ
  pub all : rows ≡ owed plan tree moment
