use Rattle.std.proofs.Common.{◌≡◌, ◌++◌}
use Rattle.pres_write.specs.Unconditionals.{puts_below}
use Rattle.pres_write.specs.Updates.{Places}
use Rattle.pres_write.proofs.update.Update.puts.Given as goal

abbrev pub invariant-loop-place : goal.invariant-loop-place
invariant-loop-place l =
    (done : Places) × (l.self.places ≡ done ++ l.place-iterator)
    × (l.placements.items ≡ puts_below (record { path = l.self.path; places = done }))
