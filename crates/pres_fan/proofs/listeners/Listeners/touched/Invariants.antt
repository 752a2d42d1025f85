use Rattle.std.proofs.Common.{◌≡◌, length}
use Rattle.std.specs.Vec.Iter.{into_iter_items, into_iter_len}
use Rattle.pres_fan.proofs.Rows.{Made}
use Rattle.pres_fan.proofs.listeners.Listeners.touched.Given as goal

-- the rows are those of the listeners so far
abbrev pub invariant-loop-listener : goal.invariant-loop-listener
invariant-loop-listener l =
    Made (into_iter_items l.initial.listener-iterator) l.rows.items (into_iter_items l.listener-iterator)
    × (into_iter_len l.listener-iterator ≡ length (into_iter_items l.listener-iterator))
