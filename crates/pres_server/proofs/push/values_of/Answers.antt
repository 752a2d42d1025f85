use Rattle.std.proofs.Common.{subst, sym}
use Rattle.pres_wire.specs.Values.{Rising}
use Rattle.pres_server.proofs.Pushed.{shown_rises}
use Rattle.pres_server.proofs.push.values_of.Goals as goal

pub unreachable-requires : goal.unreachable-requires
unreachable-requires c = absurd (c.in_default.ensures (subst Rising (sym c.in_ok-made.ensures) (shown_rises c.args.tree.now c.args.paths c.requires)))
