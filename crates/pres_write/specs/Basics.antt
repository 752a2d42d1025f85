-- Basic writes as code holds them, where null is `None`.
use Rattle.std.specs.Prelude.{◌≡◌, ◌<◌, ℕ, false, List, map, length, take, Option}
use Rattle.pres_tree.specs.declared.scalar.Scalar.{Scalar}
use Rattle.pres_tree.specs.Paths.{Path, overlap}
use Rattle.pres_tree.specs.Rows.{Rows, Fits, option_of, rows_in}
use Rattle.pres_tree.specs.Writes.{Write, write, after}

-- the value takes the place of all that stands at the path; none removes it
pub record BasicWrite : Type 0 where
  pub path : Path
  pub value : Option (Rows Scalar)

abbrev pub write_of : BasicWrite → Write Scalar
write_of b = write b.path (rows_in b.value)

abbrev pub basic : Path → Rows Scalar → BasicWrite
basic p v = record { path = p; value = option_of v }

-- the value may stand at the path
abbrev pub FitsThere : BasicWrite → Type 0
FitsThere b = Fits b.path (rows_in b.value)

-- what every basic write keeps
pub record IsBasic (b : BasicWrite) : Type 0 where
  pub fits : FitsThere b
  -- null has one form
  pub one_form : b.value ≡ option_of (rows_in b.value)

-- no write's path is at or above another's
abbrev pub Apart : List BasicWrite → Type 0
Apart writes = overlap (map (λ b. b.path) writes) ≡ false

-- the tree after these writes
abbrev pub applied : Rows Scalar → List BasicWrite → Rows Scalar
applied tree writes = after tree (map write_of writes)

-- the first k of the writes stand, and the rest do not
pub record AppliesFirst (writes : List BasicWrite) (old new : Rows Scalar) : Type 0 where
  pub k : ℕ
  pub some_left : k < length writes
  pub stands : new ≡ applied old (take k writes)
