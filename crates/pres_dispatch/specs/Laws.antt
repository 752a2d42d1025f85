-- What histories that explain a server and its lines say of whole logs.
use Rattle.std.specs.Prelude.{◌≡◌, ◌++◌, true, false, List, Option, Some, None, IfSome}
use Rattle.pres_ids.specs.declared.id.SessionId.{SessionId}
use Rattle.pres_log.specs.declared.entry.Entry.{Entry}
use Rattle.pres_log.specs.Logs.{Log, entries, number}
use Rattle.pres_history.specs.LegalLog.{IsLegal}
use Rattle.pres_history.specs.Sessions.{is_open}
use Rattle.pres_server.specs.Sums.{Sum, sum_of}
use Rattle.pres_server.specs.Histories.{whole}
use Rattle.pres_ring.specs.Transcripts.{transcript}
use Rattle.pres_ring.specs.Lines.{SessionLine, Lines, line_at}
use Rattle.pres_dispatch.specs.Dispatches.{Histories, Explains, CarryTranscripts}

-- The keeper keeps this whole log. What came before the start is legal, and has the sum at which the history since the
-- start begins.
pub record AreOfLog (before log : Log) (histories : Histories) : Type 0 where
  pub kept : histories.kept ≡ whole log
  pub parts : log ≡ before ++ histories.since_start.log
  pub begun : IsLegal before
  pub based : sum_of before ≡ histories.since_start.base

-- a line is an open session's, and what was put on it is what these entries send to that session
abbrev pub CarriesSent : List Entry → SessionId → Option SessionLine → Type 0
CarriesSent es s None = is_open s es ≡ false
CarriesSent es s (Some l) = (is_open s es ≡ true) × IfSome l.sent (λ sent. sent ≡ transcript s es)

-- the log explains a server with this sum and its lines: it is legal and leads to the sum, and what was put on each line
-- is what it sends to that line's session
pub record LogStands (log : Log) (sum : Sum) (lines : Lines) : Type 0 where
  pub legal : IsLegal log
  pub summed : sum_of log ≡ sum
  pub counted : sum.number ≡ number log
  pub told : (s : SessionId) → CarriesSent (entries log) s (line_at s lines)

-- Where the histories that explain a server and its lines are those of a whole log, that log explains them.
abbrev pub WholeLogStands : Log → Log → Histories → Sum → Lines → Type 0
WholeLogStands before log histories sum lines = AreOfLog before log histories → Explains histories sum → CarryTranscripts histories.since_start sum lines → LogStands log sum lines
