use Rattle.std.proofs.Common.{◌≡◌, ◌++◌}
use Rattle.pres_write.specs.Updates.{Places, update_writes}
use Rattle.pres_write.proofs.update.Update.writes.Given as goal

abbrev pub invariant-loop-place : goal.invariant-loop-place
invariant-loop-place l =
    (done : Places) × (l.self.places ≡ done ++ l.place-iterator)
    × (l.writes.items ≡ update_writes l.tree l.moment (record { path = l.self.path; places = done }))
