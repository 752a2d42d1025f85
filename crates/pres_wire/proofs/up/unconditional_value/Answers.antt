use Rattle.pres_write.specs.Unconditionals.{as_op}
use Rattle.pres_wire.proofs.OpNesting.{made_low}
use Rattle.pres_wire.proofs.up.unconditional_value.Goals as goal

pub returns-clause-low : goal.returns-clause-low
returns-clause-low c = made_low c.unconditional_value.result (as_op c.args.op.now) c.unconditional_value.ensures.json c.unconditional_value.ensures.reads_back
