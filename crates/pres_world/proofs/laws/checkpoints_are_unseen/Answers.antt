use Rattle.pres_world.proofs.Unseen.{checkpoints_are_unseen}
use Rattle.pres_world.proofs.laws.checkpoints_are_unseen.Goals as goal

pub returns : goal.returns
returns c = checkpoints_are_unseen
