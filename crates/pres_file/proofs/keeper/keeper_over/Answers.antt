use Rattle.std.proofs.Common.{arith}
use Rattle.std.proofs.lemmas.Grind.{common_steps}
use Rattle.pres_file.proofs.Successes.{from_one, from_refusal}
use Rattle.pres_file.proofs.keeper.keeper_over.Goals as goal

pub returns-then-is_blank-clause-new : goal.returns-then-is_blank-clause-new
returns-then-is_blank-clause-new g c = grind (arith, common_steps)

pub returns-then-is_blank-clause-made : goal.returns-then-is_blank-clause-made
returns-then-is_blank-clause-made g c = grind (arith, common_steps)

pub returns-then-is_blank-clause-empty : goal.returns-then-is_blank-clause-empty
returns-then-is_blank-clause-empty g c = from_one c.made.result (λ it empty _ clean. empty clean) c.made.ensures.empty

pub returns-then-is_blank-clause-ready : goal.returns-then-is_blank-clause-ready
returns-then-is_blank-clause-ready g c = grind (arith, common_steps)

pub returns-then-is_blank-clause-clean : goal.returns-then-is_blank-clause-clean
returns-then-is_blank-clause-clean g c = grind (arith, common_steps)

pub returns-then-is_blank-clause-opens : goal.returns-then-is_blank-clause-opens
returns-then-is_blank-clause-opens g c = grind (arith, common_steps)

pub returns-then-is_blank-clause-read : goal.returns-then-is_blank-clause-read
returns-then-is_blank-clause-read g c = grind (arith, common_steps)

pub returns-then-is_blank-clause-found : goal.returns-then-is_blank-clause-found
returns-then-is_blank-clause-found g c = grind (arith, common_steps)

pub returns-then-is_blank-clause-unmade : goal.returns-then-is_blank-clause-unmade
returns-then-is_blank-clause-unmade g c = grind (arith, common_steps)

pub returns-then-is_blank-clause-unfound : goal.returns-then-is_blank-clause-unfound
returns-then-is_blank-clause-unfound g c = grind (arith, common_steps)

pub returns-then-is_blank-clause-stays : goal.returns-then-is_blank-clause-stays
returns-then-is_blank-clause-stays g c = grind (arith, common_steps)

pub returns-then-is_blank-clause-left : goal.returns-then-is_blank-clause-left
returns-then-is_blank-clause-left g c = grind (arith, common_steps)

pub returns-else-is_blank-clause-new : goal.returns-else-is_blank-clause-new
returns-else-is_blank-clause-new g c = grind (arith, common_steps)

pub returns-else-is_blank-clause-made : goal.returns-else-is_blank-clause-made
returns-else-is_blank-clause-made g c = grind (arith, common_steps)

pub returns-else-is_blank-clause-empty : goal.returns-else-is_blank-clause-empty
returns-else-is_blank-clause-empty g c = grind (arith, common_steps)

pub returns-else-is_blank-clause-ready : goal.returns-else-is_blank-clause-ready
returns-else-is_blank-clause-ready g c = grind (arith, common_steps)

pub returns-else-is_blank-clause-clean : goal.returns-else-is_blank-clause-clean
returns-else-is_blank-clause-clean g c = grind (arith, common_steps)

pub returns-else-is_blank-clause-opens : goal.returns-else-is_blank-clause-opens
returns-else-is_blank-clause-opens g c = from_one c.found.result (λ it opens _ clean. opens clean) c.found.ensures.opens

pub returns-else-is_blank-clause-read : goal.returns-else-is_blank-clause-read
returns-else-is_blank-clause-read g c = from_one c.found.result (λ it read _ clean ours. read clean ours) c.found.ensures.read

pub returns-else-is_blank-clause-found : goal.returns-else-is_blank-clause-found
returns-else-is_blank-clause-found g c = from_one c.found.result (λ it found history _ clean ours kept. found history clean ours kept) c.found.ensures.found

pub returns-else-is_blank-clause-unmade : goal.returns-else-is_blank-clause-unmade
returns-else-is_blank-clause-unmade g c = grind (arith, common_steps)

pub returns-else-is_blank-clause-unfound : goal.returns-else-is_blank-clause-unfound
returns-else-is_blank-clause-unfound g c = from_refusal c.found.result (λ e unfound _ clean. unfound clean) c.found.ensures.unfound

pub returns-else-is_blank-clause-stays : goal.returns-else-is_blank-clause-stays
returns-else-is_blank-clause-stays g c = grind (arith, common_steps)

pub returns-else-is_blank-clause-left : goal.returns-else-is_blank-clause-left
returns-else-is_blank-clause-left g c = grind (arith, common_steps)
