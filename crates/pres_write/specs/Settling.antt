-- The value of a draft, by what its place held before and by the moment. Increments are those of Firebase Realtime
-- Database's server values; that a sum past 64 bits becomes the bound is a choice of this server.
use Rattle.std.specs.Prelude.{◌+ℤ◌, ℕ, ℤ, pos, Option, Some, None}
use Rattle.std.specs.Int.{saturate_signed, w64}
use Rattle.pres_tree.specs.declared.scalar.Scalar.{Scalar}
use Rattle.pres_tree.specs.declared.scalar.Scalar.TheVariants.{Bool, Int, Text}
use Rattle.pres_tree.specs.LeavesOn.{leaves_on}
use Rattle.pres_tree.specs.Paths.{Path}
use Rattle.pres_tree.specs.Rows.{Rows, value_at}
use Rattle.pres_write.specs.declared.draft.DraftLeaf.{DraftLeaf}
use Rattle.pres_write.specs.declared.draft.DraftLeaf.TheVariants.{Fixed, Timestamp, Increment}
use Rattle.pres_write.specs.Basics.{BasicWrite, basic}

-- the sum with the whole number that the place holds, stopped at the bounds of 64 bits; the increment alone where it holds none
abbrev pub moved_by : ℤ → Option Scalar → ℤ
moved_by by None = by
moved_by by (Some (Bool b)) = by
moved_by by (Some (Int z)) = saturate_signed w64 (z +ℤ by)
moved_by by (Some (Text s)) = by

-- a timestamp becomes the moment, an increment the sum with what its place holds
abbrev pub settled_slot : ℕ → Option Scalar → DraftLeaf → Scalar
settled_slot moment held (Fixed s) = s
settled_slot moment held Timestamp = Int (pos moment)
settled_slot moment held (Increment by) = Int (moved_by by held)

-- the value of a draft at a place that held this value: each increment reads its own place
abbrev pub settled : Rows Scalar → ℕ → Rows DraftLeaf → Rows Scalar
settled held moment draft = leaves_on (settled_slot moment) held draft

-- what a draft at its path writes on the tree
abbrev pub settled_write : Rows Scalar → ℕ → Path × Rows DraftLeaf → BasicWrite
settled_write tree moment p = basic p.0 (settled (value_at p.0 tree) moment p.1)
