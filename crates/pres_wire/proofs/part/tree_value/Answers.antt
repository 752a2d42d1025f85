use Rattle.pres_wire.proofs.Trees.{tree_made, tree_made_low}
use Rattle.pres_wire.proofs.part.tree_value.Goals as goal

pub returns-clause-reads_back : goal.returns-clause-reads_back
returns-clause-reads_back c = tree_made c.to_value.result c.args.tree.now c.depth.ensures.value c.to_value.ensures.json c.to_value.ensures.reads_back

pub returns-clause-low : goal.returns-clause-low
returns-clause-low c = tree_made_low c.to_value.result c.args.tree.now c.depth.ensures.value c.to_value.ensures.json c.to_value.ensures.reads_back
