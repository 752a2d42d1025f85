use Rattle.std.proofs.Common.{◌≡◌, ◌≤◌, ◌*◌, length}
use Rattle.pres_apply.specs.Lines.{Going}
use Rattle.pres_apply.proofs.apply.apply_run.Given as goal

abbrev pub invariant-reads : goal.invariant-reads
invariant-reads g l = record {
  going : Going (g.R.Read.remaining l.fn.input) (g.R.Read.remaining l.input) (g.W.Write.contents l.fn.output) (g.W.Write.contents l.output) l.feeder.applier l.feeder.pending.bytes.items l.feeder.pending.cut l._turn;
  room : length l.piece ≡ 65536;
  count : l.feeder.applier.log.number ≤ 65536 * l._turn;
}
