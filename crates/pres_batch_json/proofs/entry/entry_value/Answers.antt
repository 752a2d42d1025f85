use Rattle.std.proofs.Common.{arith}
use Rattle.std.proofs.lemmas.Grind.{common_steps}
use Rattle.pres_batch_json.proofs.entry.entry_value.Goals as goal

pub returns-clause-json : goal.returns-clause-json
returns-clause-json c = grind (arith, common_steps)
