-- A message that is still to be numbered, and what it shows of the tree.
use Rattle.std.specs.Prelude.{ℕ}
use Rattle.pres_tree.specs.declared.scalar.Scalar.{Scalar}
use Rattle.pres_tree.specs.Paths.{Path}
use Rattle.pres_tree.specs.Rows.{Rows, value_at}
use Rattle.pres_wire.specs.declared.down.Down.{Down}
use Rattle.pres_wire.specs.declared.values.PathValue.{PathValue}

-- a message still without its r
abbrev pub Unnumbered : Type 0
Unnumbered = ℕ → Down

-- a path and what stands there
abbrev pub shown : Rows Scalar → Path → PathValue
shown tree path = record { path = path; value = value_at path tree }
