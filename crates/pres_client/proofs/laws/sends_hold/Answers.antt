use Rattle.pres_client.proofs.SentSteps.{sends_hold}
use Rattle.pres_client.proofs.laws.sends_hold.Goals as goal

pub returns : goal.returns
returns c = sends_hold
