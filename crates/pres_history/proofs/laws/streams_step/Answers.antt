use Rattle.pres_history.proofs.StreamSteps.{stream_step}
use Rattle.pres_history.proofs.laws.streams_step.Goals as goal

pub returns : goal.returns
returns c = stream_step
