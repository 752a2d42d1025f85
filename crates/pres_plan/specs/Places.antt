-- Spots by their paths.
use Rattle.std.specs.Prelude.{◌≡◌, ℕ, List, Option, Some, Result, IsSome, false, if◌then◌else◌}
use Rattle.std.specs.Ordering.{is_lt}
use Rattle.std.specs.declared.cmp.Ordering.TheVariants.{Less}
use Rattle.std.specs.Map.{lookup}
use Rattle.std.specs.BTreeMap.{is_at}
use Rattle.std_collections.specs.Layout.BTreeMap.{seek}
use Rattle.pres_tree.specs.Paths.{Path, path_cmp}
use Rattle.pres_plan.specs.declared.places.Spot.{Spot}

-- spots with their paths
abbrev pub Spots : Type 0
Spots = List (Path × Spot)

-- the spot of the path
abbrev pub spot_at : Path → Spots → Option Spot
spot_at path spots = lookup (is_at (path_cmp path)) spots

-- where the path stands among them, or where it is to go
abbrev pub place_of : Path → Spots → Result ℕ ℕ
place_of path spots = seek (path_cmp path) spots

-- the spot of one path changes
abbrev pub Sets : Path → Option Spot → Spots → Spots → Type 0
Sets path spot old new = (other : Path) → spot_at other new ≡ (if is_at (path_cmp path) other then spot else spot_at other old)

-- the last spot before the path, with its own
pub record IsBefore (spots : Spots) (path own : Path) (spot : Spot) : Type 0 where
  pub found : spot_at own spots ≡ Some spot
  pub less : path_cmp own path ≡ Less
  pub last : (other : Path) → path_cmp other path ≡ Less → IsSome (spot_at other spots) → is_lt (path_cmp own other) ≡ false
