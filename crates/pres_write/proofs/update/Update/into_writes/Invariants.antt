use Rattle.std.proofs.Common.{◌≡◌, ◌++◌}
use Rattle.pres_write.specs.Updates.{Places, update_writes}
use Rattle.pres_write.proofs.update.Update.into_writes.Given as goal

abbrev pub invariant-loop-place : goal.invariant-loop-place
invariant-loop-place l =
    (goal.iterator-loop-place).can_next l.place-iterator × (goal.iterator-loop-place).is_finite l.place-iterator
    × (done : Places) × (l.fn.self.places ≡ done ++ l.place-iterator)
    × (l.writes.items ≡ update_writes l.tree l.moment (record { path = l.fn.self.path; places = done }))
