use Rattle.pres_server.proofs.Turning.{turn_follows}
use Rattle.pres_history.proofs.laws.turns_follow.Goals as goal

pub returns : goal.returns
returns c = turn_follows
