use Rattle.std.proofs.Common.{arith}
use Rattle.std.proofs.lemmas.Grind.{common_steps}
use Rattle.pres_wire.proofs.down_form.out_value.Goals as goal

pub returns-in-Ok-json-clause-json : goal.returns-in-Ok-json-clause-json
returns-in-Ok-json-clause-json c = grind (arith, common_steps)

pub returns-in-Ok-json-3-clause-low : goal.returns-in-Ok-json-3-clause-low
returns-in-Ok-json-3-clause-low c = grind (arith, common_steps)
