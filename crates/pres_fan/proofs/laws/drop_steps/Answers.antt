use Rattle.pres_fan.proofs.Places.{without_session_step}
use Rattle.pres_fan.proofs.laws.drop_steps.Goals as goal

pub returns : goal.returns
returns c = λ s ls t. without_session_step s t ls
