-- What messages say of a path.
use Rattle.std.specs.Prelude.{ℕ, List, [], ◌∷◌, Option, Some, None, if◌then◌else◌}
use Rattle.std.specs.List.{filter_map, last_or}
use Rattle.pres_tree.specs.declared.scalar.Scalar.{Scalar}
use Rattle.pres_tree.specs.Paths.{Path, same_path}
use Rattle.pres_tree.specs.Rows.{Rows}
use Rattle.pres_wire.specs.declared.values.PathValue.{PathValue}
use Rattle.pres_wire.specs.declared.down.Down.{Down}
use Rattle.pres_wire.specs.declared.down.Down.TheVariants.{Snap, Push}
use Rattle.pres_wire.specs.Messages.{number_in}

-- the value at the path
abbrev pub value_in : Path → List PathValue → Option (Rows Scalar)
value_in p [] = None
value_in p (v ∷ values) = if same_path p v.path then Some v.value else value_in p values

-- the value at the path in a message
abbrev pub value_told : Path → Down → Option (Rows Scalar)
value_told p (Snap s r z q path value) = if same_path p path then Some value else None
value_told p (Push s r z values) = value_in p values
value_told p _ = None

abbrev pub seen : Option Down → Option (Rows Scalar) → Option (ℕ × Rows Scalar)
seen (Some m) (Some value) = Some (number_in m, value)
seen _ _ = None

-- what is seen of the path: the number of the last message, and the value that was sent last
abbrev pub seen_in : Path → List Down → Option (ℕ × Rows Scalar)
seen_in p messages = seen (last_or None messages) (last_or None (filter_map (value_told p) messages))
