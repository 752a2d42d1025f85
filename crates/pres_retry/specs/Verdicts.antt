-- What a write is, by the rows of its client.
use Rattle.std.specs.Prelude.{ℕ, ◌+◌, ◌-◌, List, length, Option, Some, None, if◌then◌else◌, ◌==◌, slice_get, option_copied}
use Rattle.pres_write.specs.declared.outcome.Kept.{Kept}
use Rattle.pres_write.specs.declared.outcome.Kept.TheVariants as kept
use Rattle.pres_retry.specs.declared.answers.Answer.{Answer}
use Rattle.pres_retry.specs.declared.answers.KeptRef.{KeptRef}
use Rattle.pres_retry.specs.declared.answers.KeptRef.TheVariants as lent
use Rattle.pres_retry.specs.declared.answers.Verdict.{Verdict}
use Rattle.pres_retry.specs.declared.answers.Verdict.TheVariants.{New, Again, Gap}
use Rattle.pres_retry.specs.declared.table.Row.{Row}
use Rattle.pres_retry.specs.Tables.{row}

-- what a write with a number is: the next one, one that has a row, or no write that may come
pub data WriteStatus : Type 0 where
  fresh : WriteStatus
  again : Row → WriteStatus
  gap : WriteStatus

abbrev pub row_status : Option Row → WriteStatus
row_status None = gap
row_status (Some row) = again row

-- write n of a client that has these rows: writes are counted from 1, so 0 is none of them
abbrev pub verdict : ℕ → List Row → WriteStatus
verdict n rows = if n == 0 then gap else (if n == length rows + 1 then fresh else row_status (slice_get rows (n - 1)))

-- what an answer lends
abbrev pub lent_kept : KeptRef → Kept
lent_kept lent.Wrote = kept.Wrote
lent_kept (lent.Stale held) = kept.Stale (option_copied held)

-- the row that an answer lends
abbrev pub lent_row : Answer → Row
lent_row answer = row answer.done (lent_kept answer.kept)

-- what a verdict says
abbrev pub status_of : Verdict → WriteStatus
status_of New = fresh
status_of (Again answer) = again (lent_row answer)
status_of Gap = gap
