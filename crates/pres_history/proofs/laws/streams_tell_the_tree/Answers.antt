use Rattle.pres_history.proofs.Views.{stream_tells}
use Rattle.pres_history.proofs.laws.streams_tell_the_tree.Goals as goal

pub returns : goal.returns
returns c = stream_tells
