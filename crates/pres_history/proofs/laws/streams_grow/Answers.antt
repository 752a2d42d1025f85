use Rattle.pres_history.proofs.StreamSteps.{stream_grows}
use Rattle.pres_history.proofs.laws.streams_grow.Goals as goal

pub returns : goal.returns
returns c = stream_grows
