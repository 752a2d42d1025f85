-- What lines are put of the answers of batches.
use Rattle.std.specs.Prelude.{◌≡◌, ◌⊎◌, ◌≤◌, ◌+◌, Bool, true, false, List, ◌++◌, length, Option, Some, None, IfSome}
use Rattle.std.specs.List.{list_any}
use Rattle.pres_ids.specs.declared.id.SessionId.{SessionId}
use Rattle.pres_wire.specs.declared.down.Down.{Down}
use Rattle.pres_ring.specs.Transcripts.{those_for, is_gone_for}
use Rattle.pres_ring.specs.HistoryTranscripts.{BeginsTranscriptIn}
use Rattle.pres_ring.specs.Lines.{SessionLine}

-- with the messages that are for s, what was put on its line is a beginning of its transcript in some history
abbrev pub FitsTranscript : SessionId → List Down → Option SessionLine → Type 0
FitsTranscript s ms line = IfSome line (λ l. IfSome l.sent (λ sent. BeginsTranscriptIn s (sent ++ those_for s ms)))

-- these messages were appended to what was put, or were given up with all later ones
abbrev pub SentAfter : Option (List Down) → List Down → Option (List Down) → Type 0
SentAfter None ms after = after ≡ None
SentAfter (Some sent) ms after = (after ≡ Some (sent ++ ms)) ⊎ (after ≡ None)

-- it is there, with the mark of the line before, and was put these messages
abbrev pub IsPut : SessionLine → List Down → Option SessionLine → Type 0
IsPut l ms after = (new : SessionLine) × (after ≡ Some new) × (new.mark ≡ l.mark) × SentAfter l.sent ms new.sent

-- a line that gets Gone is removed, and each other one gets these messages
abbrev pub LeavesOrIsPut : Bool → SessionLine → List Down → Option SessionLine → Type 0
LeavesOrIsPut true l ms after = after ≡ None
LeavesOrIsPut false l ms after = IsPut l ms after

-- what becomes of the line of s, none where there is none, once these messages were put on their lines
abbrev pub LineAfter : SessionId → List Down → Option SessionLine → Option SessionLine → Type 0
LineAfter s ms None after = after ≡ None
LineAfter s ms (Some l) after = LeavesOrIsPut (list_any (is_gone_for s) ms) l (those_for s ms) after

-- a line gives up nothing where at most this many were put
abbrev pub LineFits : SessionId → List Down → Option SessionLine → Option SessionLine → Type 0
LineFits s ms before after =
    IfSome before (λ l. IfSome l.sent (λ sent. length sent + length (those_for s ms) ≤ 256 → IfSome after (λ new. new.sent ≡ Some (sent ++ those_for s ms))))
