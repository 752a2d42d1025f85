-- What fits at a path is not too deep there.
use Rattle.std.proofs.Common.{◌+◌, ◌-◌, ◌≤◌, length, length-append, arith}
use Rattle.pres_tree.specs.Paths.{Path, IsPath}
use Rattle.pres_tree.specs.Rows.{Rows, Fits, depth_of}
use Rattle.pres_write.proofs.Depths.{depth_within}

pub fits_depth : {A : Type 0} (p : Path) (v : Rows A) → IsPath p → Fits p v → length p + depth_of v ≤ 32
fits_depth p v path fits =
    let few = path.0 in
    let deep = depth_within v (32 - length p) (λ x k. omega (arith, (fits x k).0, length-append p x)) in
    omega arith
