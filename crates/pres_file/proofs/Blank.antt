-- Files that are taken for no database hold none.
use Rattle.std.proofs.Common.{ℕ, ◌<◌, ◌≤◌, arith}
use Rattle.sqlite_wal.specs.Recovery.{Image}
use Rattle.sqlite_pool.specs.Opening.{IsBlankFile}
use Rattle.sqlite_pool.specs.Stored.{reserved}
use Rattle.sqlite_pool.proofs.ProbeLemmas.{not_blank}
use Rattle.sqlite_trees.specs.Tree.{Trees}
use Rattle.sqlite.specs.Files.{HoldsDatabase}

pub holds_nothing : (size : ℕ) (image : Image) (db : Trees) → 0 < size → HoldsDatabase image db → IsBlankFile size image → ⊥
holds_nothing size image db some held =
    let large : 504 ≤ held.0 = (let few : reserved held.0 ≤ 8 = grind arith in omega (arith, held.1.0)) in
    not_blank held.0 image held.2.pages held.2.found large held.2.ours.file.sound size some
