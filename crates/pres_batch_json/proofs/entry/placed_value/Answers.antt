use Rattle.std.proofs.Common.{arith}
use Rattle.std.proofs.lemmas.Grind.{common_steps}
use Rattle.pres_batch_json.proofs.entry.placed_value.Goals as goal

pub returns-clause-q : goal.returns-clause-q
returns-clause-q c = grind (arith, common_steps)

pub returns-clause-path : goal.returns-clause-path
returns-clause-path c = grind (arith, common_steps)
