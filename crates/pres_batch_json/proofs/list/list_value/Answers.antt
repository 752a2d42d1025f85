use Rattle.std.proofs.Common.{arith}
use Rattle.pres_batch_json.proofs.Listed.{list_read, list_low}
use Rattle.pres_batch_json.proofs.list.list_value.Goals as goal
use Rattle.std.proofs.lemmas.Grind.{common_steps}

pub returns-clause-reads_back : goal.returns-clause-reads_back
returns-clause-reads_back g c =
    list_read g.T.BatchJson.found g.T.BatchJson.json g.T.BatchJson.kept c.args.saved.now (λ k d l. c.loop-one.invariant.read k d (omega arith))

pub returns-clause-low : goal.returns-clause-low
returns-clause-low g c =
    list_low g.T.BatchJson.json g.T.BatchJson.levels c.args.saved.now (λ k d l. c.loop-one.invariant.low k d (omega arith))

pub loop-one-preserved : goal.loop-one-preserved
loop-one-preserved g c = grind (arith, common_steps)
