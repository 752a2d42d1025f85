use Rattle.pres_history.proofs.Whole.{readers_say}
use Rattle.pres_history.proofs.laws.readers_say.Goals as goal

pub returns : goal.returns
returns c = readers_say
