-- Checkpoints among the events of a world.
use Rattle.std.specs.Prelude.{List, [], ◌∷◌}
use Rattle.pres_ids.specs.Ids.{ClientId}
use Rattle.pres_server.specs.Sums.{nothing}
use Rattle.pres_world.specs.declared.event.Event.{Event}
use Rattle.pres_world.specs.declared.event.Event.TheVariants as event
use Rattle.pres_world.specs.Worlds.{World, RunsTo, new_world}

-- the events but for the checkpoints
abbrev pub without_checkpoints : List Event → List Event
without_checkpoints [] = []
without_checkpoints (event.Checkpoint ∷ later) = without_checkpoints later
without_checkpoints (e ∷ later) = e ∷ without_checkpoints later

-- the world as it is where no base was kept
abbrev pub without_base : World → World
without_base w = record w { serving = record w.serving { base = nothing } }

-- Events make the world that they make without the checkpoints among them, but for the base that is kept.
abbrev pub CheckpointsAreUnseen : List ClientId → List Event → World → Type 0
CheckpointsAreUnseen ids events v = RunsTo (new_world ids) events v → RunsTo (new_world ids) (without_checkpoints events) (without_base v)
