use Rattle.std.specs.Option.{option_map}
use Rattle.std.specs.Map.{keys_of}
use Rattle.pres_tree.specs.Paths.{overlap}
use Rattle.pres_write.proofs.Overlaps.{Left}
use Rattle.pres_write.proofs.update.overlaps.Given as goal

abbrev pub invariant-loop-place : goal.invariant-loop-place
invariant-loop-place l = Left (overlap (keys_of l.places.entries)) (option_map (λ p. p.now) l.last) (keys_of l.place-iterator)
