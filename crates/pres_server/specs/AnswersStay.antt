-- Kept answers stay: what was answered since a history's base comes behind the base's answers.
use Rattle.std.specs.Prelude.{◌≡◌, ◌≤◌, ◌++◌, IsTrue, List}
use Rattle.pres_ids.specs.Ids.{ClientId}
use Rattle.pres_retry.specs.declared.table.Row.{Row}
use Rattle.pres_retry.specs.Tables.{rows_of}
use Rattle.pres_retry.specs.Above.{rows_up_to}
use Rattle.pres_base.specs.declared.parts.BaseParts.{BaseParts}
use Rattle.pres_base.specs.Bases.{are_done}
use Rattle.pres_base.specs.AnswersApart.{KeepsAnswers}
use Rattle.pres_server.specs.Sums.{Sum}
use Rattle.pres_server.specs.Histories.{History, LeadsTo}
use Rattle.pres_server.specs.BaseSums.{sum_for}

-- the answers to the client's writes in the later sum are those in the earlier one, and then those that were made since
pub record AnswersStay (client : ClientId) (earlier later : Sum) : Type 0 where
  pub since : List Row
  pub behind : rows_of client later.rows ≡ rows_of client earlier.rows ++ since
  -- they were made one after another, each by an entry since
  pub after : IsTrue (are_done earlier.number later.number since)
  pub number : earlier.number ≤ later.number

-- The answers of a history's base stay in the sum that it leads to.
abbrev pub HistoryKeepsAnswers : History → Sum → ClientId → Type 0
HistoryKeepsAnswers history sum client = LeadsTo history sum → AnswersStay client history.base sum

-- Those of the sum's answers that were made up to the number of the base are the base's.
abbrev pub HistorySplitsAnswers : History → Sum → ClientId → Type 0
HistorySplitsAnswers history sum client = LeadsTo history sum → rows_up_to history.base.number (rows_of client sum.rows) ≡ rows_of client history.base.rows

-- So a base of the sum keeps the answers of one with which the history begins.
abbrev pub BaseKeepsAnswers : History → BaseParts → BaseParts → Type 0
BaseKeepsAnswers history earlier later = sum_for earlier ≡ history.base → LeadsTo history (sum_for later) → KeepsAnswers earlier later
