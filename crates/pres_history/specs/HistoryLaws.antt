-- What holds of histories, and of what a turn makes, by the sum.
use Rattle.std.specs.Prelude.{◌≡◌, ℕ, List, [], ◌∷◌, ◌++◌}
use Rattle.pres_wire.specs.declared.down.Down.{Down}
use Rattle.pres_log.specs.declared.entry.Batch.{Batch}
use Rattle.pres_log.specs.declared.entry.Entry.{Entry}
use Rattle.pres_log.specs.Logs.{Log, entries}
use Rattle.pres_server.specs.declared.input.Input.{Input}
use Rattle.pres_history.specs.Streams.{answers}
use Rattle.pres_history.specs.LegalLog.{IsLegal}
use Rattle.pres_server.specs.Turns.{makes}
use Rattle.pres_server.specs.Sums.{Sum, nothing, sum_with, sum_of}
use Rattle.pres_server.specs.SumAnswers.{answers_by}
use Rattle.pres_server.specs.SumStates.{SumState}
use Rattle.pres_server.specs.SumTurns.{FollowsSum, moment_by, turn_by, batch_by}
use Rattle.pres_history.specs.SumLaws.{IsReached}
use Rattle.pres_server.specs.Histories.{IsSum, History, LeadsTo, whole, with_batch, answers_in}

-- What a turn makes may follow.
abbrev pub TurnFollows : SumState → Input → ℕ → Type 0
TurnFollows state input now =
    IsSum state.sum → (es : List Entry) → turn_by state input now ≡ makes es → FollowsSum state.sum (batch_by state.sum (moment_by state.sum now) es)

-- What holds of every server's sum holds of the sum that a history leads to.
abbrev pub HistoryHolds : History → Sum → Type 0
HistoryHolds history sum = LeadsTo history sum → IsSum sum

-- the history goes on by the batch, and what it answered by the batch's answers
pub record GoesOn (history : History) (sum : Sum) (batch : Batch) : Type 0 where
  pub leads : LeadsTo (with_batch history batch) (sum_with sum batch)
  pub answered : answers_in (with_batch history batch) ≡ answers_in history ++ answers_by sum batch.entries

-- A history goes on by each batch that may follow.
abbrev pub HistoryGrows : History → Sum → Batch → Type 0
HistoryGrows history sum batch = LeadsTo history sum → FollowsSum sum batch → GoesOn history sum batch

-- what the later batches of a log answer, one after another
abbrev pub answers_after : Log → Log → List Down
answers_after before [] = []
answers_after before (batch ∷ later) = answers (entries before) batch.entries ++ answers_after (before ++ batch ∷ []) later

-- A legal log is a history that begins at nothing, leads to the log's sum, and answered what the log says.
abbrev pub LegalIsHistory : Log → Type 0
LegalIsHistory log = IsLegal log → LeadsTo (whole log) (sum_of log) × (answers_in (whole log) ≡ answers_after [] log)

-- A history that begins at nothing is a legal log, whose sum is the one that it leads to.
abbrev pub HistoryIsLegal : History → Sum → Type 0
HistoryIsLegal history sum = history.base ≡ nothing → LeadsTo history sum → IsLegal history.log × (sum_of history.log ≡ sum)

-- a legal log that has the base's sum, and with the batches since is legal and has the sum
pub record HasLog (history : History) (sum : Sum) : Type 0 where
  -- the batches before the base
  pub before : Log
  pub begun : IsLegal before
  pub based : sum_of before ≡ history.base
  pub legal : IsLegal (before ++ history.log)
  pub summed : sum_of (before ++ history.log) ≡ sum

-- A history whose base some legal log has is the end of a legal log, whose sum is the one that it leads to.
abbrev pub ReachedHasLog : History → Sum → Type 0
ReachedHasLog history sum = IsReached history.base → LeadsTo history sum → HasLog history sum
