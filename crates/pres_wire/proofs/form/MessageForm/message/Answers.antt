use Rattle.std.proofs.Common.{arith}
use Rattle.std.proofs.lemmas.Grind.{common_steps}
use Rattle.pres_wire.proofs.form.MessageForm.message.Goals as goal

pub returns-clause-reads_back : goal.returns-clause-reads_back
returns-clause-reads_back c = grind (arith, common_steps)

pub returns-clause-json : goal.returns-clause-json
returns-clause-json c = grind (arith, common_steps)
