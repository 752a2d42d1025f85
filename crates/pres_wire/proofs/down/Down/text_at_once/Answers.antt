use Rattle.std.proofs.Common.{arith}
use Rattle.std.proofs.lemmas.Grind.{common_steps}
use Rattle.pres_wire.proofs.down.Down.text_at_once.Goals as goal

pub returns-in-Reply-default-default-default-default-default-default-Wrote-clause-text : goal.returns-in-Reply-default-default-default-default-default-default-Wrote-clause-text
returns-in-Reply-default-default-default-default-default-default-Wrote-clause-text c = grind (arith, common_steps)

pub returns-in-Reply-default-default-default-default-default-default-Wrote-clause-form : goal.returns-in-Reply-default-default-default-default-default-default-Wrote-clause-form
returns-in-Reply-default-default-default-default-default-default-Wrote-clause-form c = grind (arith, common_steps)

pub returns-in-len1-clause-form : goal.returns-in-len1-clause-form
returns-in-len1-clause-form c = grind (arith, common_steps)

pub returns-in-len1-clause-text : goal.returns-in-len1-clause-text
returns-in-len1-clause-text c = grind (arith, common_steps)

pub returns-in-len1-clause-reads_back : goal.returns-in-len1-clause-reads_back
returns-in-len1-clause-reads_back c = grind (arith, common_steps)
