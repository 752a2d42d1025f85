-- what is left is sent, and where it is put all was put as it should
use Rattle.std.proofs.Common.{◌≤◌, Option}
use Rattle.pres_ids.specs.declared.id.SessionId.{SessionId}
use Rattle.pres_ring.specs.Lines.{SessionLine, line_at, unmarked}
use Rattle.pres_ring.specs.Deliveries.{FitsTranscript, LineAfter, LineFits}
use Rattle.pres_ring.proofs.lines.Lines.deliver.Given as goal

abbrev pub invariant-loop-message : goal.invariant-loop-message
invariant-loop-message l =
    ((s : SessionId) → FitsTranscript s l.message-iterator.rest.items (line_at s l.self))
    × ((s : SessionId) (after : Option SessionLine) → LineAfter s l.message-iterator.rest.items (line_at s l.self) after → LineAfter s l.fn.answers (line_at s l.fn.self) after)
    × ((s : SessionId) (after : Option SessionLine) → LineAfter s l.message-iterator.rest.items (line_at s l.self) after → LineFits s l.message-iterator.rest.items (line_at s l.self) after → LineFits s l.fn.answers (line_at s l.fn.self) after)
    × (unmarked l.self ≤ unmarked l.fn.self)
