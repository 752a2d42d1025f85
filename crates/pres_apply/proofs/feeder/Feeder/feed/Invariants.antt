use Rattle.std.proofs.Common.{ℕ, List, length, ◌+◌, ◌≤◌}
use Rattle.pres_apply.specs.Lines.{IsFeedless, KeepsLine, Midway}
use Rattle.pres_apply.proofs.feeder.Feeder.feed.Given as goal

abbrev pub invariant-lines : goal.invariant-lines
invariant-lines l = record {
  taken : (line : List ℕ) → IsFeedless line → KeepsLine line l.fn.self.pending.bytes.items l.fn.self.pending.cut → Midway l.fn.self.applier l.self.applier line l.fn.piece l.rest l.self.pending.bytes.items l.self.pending.cut l.fn.out.items l.out.items;
  count : l.self.applier.log.number + length l.rest ≤ l.fn.self.applier.log.number + length l.fn.piece;
}

abbrev pub decreases-lines : goal.decreases-lines
decreases-lines l = length l.rest
