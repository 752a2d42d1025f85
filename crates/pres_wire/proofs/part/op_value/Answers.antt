use Rattle.pres_wire.proofs.OpNesting.{made_low}
use Rattle.pres_wire.proofs.part.op_value.Goals as goal

pub returns-clause-low : goal.returns-clause-low
returns-clause-low c = made_low c.op_value.result c.args.op.now c.op_value.ensures.json c.op_value.ensures.reads_back
