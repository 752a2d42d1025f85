use Rattle.pres_client.proofs.SentOut.{steps_send}
use Rattle.pres_client.proofs.laws.steps_send.Goals as goal

pub returns : goal.returns
returns c = steps_send
