use Rattle.std.proofs.Common.{◌≡◌, take}
use Rattle.pres_wire.proofs.values.Values.copy.Given as goal

abbrev pub invariant-loop-item : goal.invariant-loop-item
invariant-loop-item l = l.items.items ≡ take l.item-index l.self
