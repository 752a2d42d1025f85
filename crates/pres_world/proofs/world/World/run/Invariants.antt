use Rattle.pres_world.proofs.Reached.{Reached}
use Rattle.pres_world.proofs.world.World.run.Given as goal

abbrev pub invariant-loop-event : goal.invariant-loop-event
invariant-loop-event l = Reached l.fn.self l.self l.fn.events.items l.event-iterator.rest.items
