use Rattle.pres_fan.proofs.Places.{without_step}
use Rattle.pres_fan.proofs.laws.off_steps.Goals as goal

pub returns : goal.returns
returns c = λ s p ls t. without_step s p t ls
