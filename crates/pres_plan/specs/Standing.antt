-- Rows by their numbers, and the spots of their paths.
use Rattle.std.specs.Prelude.{◌≡◌, ◌<◌, ◌≤◌, ◌==◌, ◌&&◌, ℕ, Bool, true, not, Option, Some, None, List, [], ◌∷◌, ◌++◌, IfSome, map, length, filter, take}
use Rattle.std.specs.List.{list_any}
use Rattle.std.specs.Map.{values_of}
use Rattle.pres_tree.specs.Paths.{Path, same_path, is_prefix}
use Rattle.pres_plan.specs.declared.row.PlanRow.{PlanRow}
use Rattle.pres_plan.specs.declared.places.Spot.{Spot}
use Rattle.pres_plan.specs.Places.{Spots, spot_at}
use Rattle.pres_plan.specs.Plans.{path_of, IsPlan}

-- rows with their numbers
abbrev pub Entries : Type 0
Entries = List (ℕ × PlanRow)

-- ---- which rows stand at a path

-- the numbers of the rows at the path, in order
abbrev pub numbers_at : Path → Entries → List ℕ
numbers_at path rows = map (λ e. e.0) (filter (λ e. same_path path (path_of e.1.action)) rows)

-- the numbers without this one
abbrev pub without : ℕ → List ℕ → List ℕ
without number numbers = filter (λ n. not (number == n)) numbers

abbrev pub before_of : Option ℕ → List ℕ
before_of None = []
before_of (Some number) = number ∷ []

-- the numbers that a spot tells
abbrev pub numbers_of : Option Spot → List ℕ
numbers_of None = []
numbers_of (Some spot) = before_of spot.before ++ spot.row ∷ []

-- the spot of each path tells which rows stand there
abbrev pub Tells : Spots → Entries → Type 0
Tells places rows = (path : Path) → numbers_of (spot_at path places) ≡ numbers_at path rows

-- the rows that the spots at the path and below it tell
abbrev pub numbers_below : Path → Spots → List ℕ
numbers_below path spots = map (λ e. e.1.row) (filter (λ e. is_prefix path e.0) spots)

-- ---- the shortest paths at which rows stand

-- a row stands at the path
abbrev pub stands : Path → List PlanRow → Bool
stands path rows = list_any (λ row. same_path path (path_of row.action)) rows

-- a row stands above the path
abbrev pub above : Path → List PlanRow → Bool
above path rows = list_any (λ row. is_prefix (path_of row.action) path && not (is_prefix path (path_of row.action))) rows

-- no row stands at fewer of the path's first keys, and one stands at these, unless they are all
pub record IsTop (rows : List PlanRow) (path : Path) (top : ℕ) : Type 0 where
  pub short : top ≤ length path
  pub there : top < length path → stands (take top path) rows ≡ true
  pub first : (other : Path) → is_prefix other path ≡ true → stands other rows ≡ true → top ≤ length other

-- each spot has the top of its path
abbrev pub AreTops : List PlanRow → Spots → Type 0
AreTops rows places = (path : Path) → IfSome (spot_at path places) (λ spot. IsTop rows path spot.top)

-- ---- what stands

-- the rows are a plan, and the spots are those of their paths
pub record IsStanding (rows : Entries) (places : Spots) : Type 0 where
  pub plan : IsPlan (values_of rows)
  pub tells : Tells places rows
  pub tops : AreTops (values_of rows) places
