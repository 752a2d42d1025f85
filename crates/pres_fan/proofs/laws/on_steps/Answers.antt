use Rattle.pres_fan.proofs.Places.{with_step}
use Rattle.pres_fan.proofs.laws.on_steps.Goals as goal

pub returns : goal.returns
returns c = λ s p ls held t. with_step s p t ls held
