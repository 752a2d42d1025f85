use Rattle.std.proofs.Common.{arith}
use Rattle.pres_plan.proofs.Fitting.{fits_depth}
use Rattle.pres_plan.proofs.row.fitting.Goals as goal

pub unreachable-requires : goal.unreachable-requires
unreachable-requires c = let deep = fits_depth c.args.path c.args.value c.len.ensures.path c.requires in omega (arith, c.in-Err.ensures.1)
