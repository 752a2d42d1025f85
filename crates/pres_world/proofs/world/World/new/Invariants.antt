use Rattle.std.proofs.Common.{◌≡◌, [], drop}
use Rattle.std.specs.Prelude.{fold}
use Rattle.pres_world.specs.Worlds.{joined}
use Rattle.pres_world.proofs.world.World.new.Given as goal

-- with those that are to come they are the clients of all ids
abbrev pub invariant-loop-id : goal.invariant-loop-id
invariant-loop-id l = fold joined l.members (drop l.id-index l.ids) ≡ fold joined [] l.fn.ids
