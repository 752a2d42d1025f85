use Rattle.pres_base_json.proofs.Bodies.{body_is_read}
use Rattle.pres_base_json.proofs.laws.bodies_are_read.Goals as goal

pub returns : goal.returns
returns c = body_is_read
