-- Updates: drafts at places below one path, of which no place is at or above another.
use Rattle.std.specs.Prelude.{◌≡◌, ◌≤◌, ◌+◌, ◌++◌, ℕ, Bool, List, All, false, length, map, nat_lt, Option, Some, None, if◌then◌else◌}
use Rattle.std.specs.List.{list_any}
use Rattle.std.specs.Map.{keys_of}
use Rattle.std.specs.List.Sorted.{IsStrictlySortedBy}
use Rattle.pres_tree.specs.Paths.{Path, IsPath, max_depth, path_cmp, sorted_by, overlap}
use Rattle.pres_tree.specs.Rows.{Rows, Fits, depth_of}
use Rattle.pres_tree.specs.declared.fault.TreeFault.TheVariants.{TooDeep}
use Rattle.pres_tree.specs.declared.scalar.Scalar.{Scalar}
use Rattle.pres_write.specs.declared.basic.Basic.{Basic}
use Rattle.pres_write.specs.declared.fault.WriteFault.{WriteFault}
use Rattle.pres_write.specs.declared.fault.WriteFault.TheVariants.{Tree, Overlap, ManyPaths}
use Rattle.pres_write.specs.declared.draft.DraftLeaf.{DraftLeaf}
use Rattle.pres_write.specs.Settling.{settled_write}

-- drafts at places
abbrev pub Places : Type 0
Places = List (Path × Rows DraftLeaf)

-- the places stand below the path
pub record PlacesBelow : Type 0 where
  pub path : Path
  pub places : Places

-- the place is a path below the other one, and so is each place of its draft
abbrev pub FitsBelow : Path → Path × Rows DraftLeaf → Type 0
FitsBelow p place = IsPath (p ++ place.0) × Fits (p ++ place.0) place.1

-- the most places of an update
abbrev pub most_places : ℕ
most_places = 256

-- what every update keeps
pub record IsUpdate (u : PlacesBelow) : Type 0 where
  pub path : IsPath u.path
  pub in_order : IsStrictlySortedBy path_cmp (keys_of u.places)
  pub apart : overlap (keys_of u.places) ≡ false
  pub few : length u.places ≤ most_places
  pub fit : All (FitsBelow u.path) u.places

-- ---- updates of given drafts

-- a place that is no path below the path, or whose draft is nested too deep there
abbrev pub is_deep_below : Path → Path × Rows DraftLeaf → Bool
is_deep_below p place = nat_lt max_depth (length p + length place.0 + depth_of place.1)

-- why drafts at places below a path are no update
abbrev pub update_fault : Path → Places → Option WriteFault
update_fault p places =
    if nat_lt most_places (length places) then Some ManyPaths
    else (if list_any (is_deep_below p) places then Some (Tree TooDeep)
    else (if overlap (keys_of places) then Some Overlap else None))

-- their update
abbrev pub update_of : Path → Places → PlacesBelow
update_of p places = record { path = p; places = sorted_by path_cmp places }

-- ---- what updates write

-- the writes of an update, in path order, each resolved on the tree before all of them
abbrev pub update_writes : Rows Scalar → ℕ → PlacesBelow → List Basic
update_writes tree moment u = map (λ e. settled_write tree moment (u.path ++ e.0, e.1)) u.places
