use Rattle.pres_tree.proofs.Printing.{on_ok}
use Rattle.pres_wire.proofs.Trees.{tree_read, tree_read_low}
use Rattle.pres_wire.proofs.part.write_tree.Goals as goal

pub returns-clause-reads_back : goal.returns-clause-reads_back
returns-clause-reads_back c = on_ok c.write_value.result (tree_read c.args.tree.now c.depth.ensures.value) c.write_value.ensures.reads_back

pub returns-clause-low : goal.returns-clause-low
returns-clause-low c = on_ok c.write_value.result (tree_read_low c.args.tree.now c.depth.ensures.value) c.write_value.ensures.reads_back
