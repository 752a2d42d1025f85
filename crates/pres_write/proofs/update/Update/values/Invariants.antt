use Rattle.std.proofs.Common.{◌≡◌, ◌++◌}
use Rattle.std.specs.List.{AllByRecursion}
use Rattle.pres_tree.specs.Keys.{key_cmp}
use Rattle.pres_tree.specs.Paths.{sorted_by}
use Rattle.pres_write.specs.OpForms.{named}
use Rattle.pres_write.specs.Updates.{Places}
use Rattle.pres_write.proofs.Named.{pairs, DraftReads}
use Rattle.pres_write.proofs.update.Update.values.Given as goal

abbrev pub invariant-loop-place : goal.invariant-loop-place
invariant-loop-place l =
    (done : Places) × (l.self.places ≡ done ++ l.place-iterator)
    × (pairs l.values.entries ≡ sorted_by key_cmp (named done))
    × AllByRecursion DraftReads done
