use Rattle.std.proofs.Common.{◌≡◌, ◌++◌}
use Rattle.std.specs.BTreeMap.{IsOrdered}
use Rattle.pres_tree.specs.Paths.{path_cmp}
use Rattle.pres_write.specs.Updates.{Places}
use Rattle.pres_write.proofs.update.Update.copy.Given as goal

abbrev pub invariant-loop-place : goal.invariant-loop-place
invariant-loop-place l =
    (done : Places) × (l.self.places ≡ done ++ l.place-iterator) × (l.places.entries ≡ done) × IsOrdered path_cmp l.places
