use Rattle.std.proofs.Common.{◌≡◌, inr, Ok, Err, IsTrue}
use Rattle.sqlite.specs.Held.{state}
use Rattle.pres_batch_rows.proofs.Inserting.{left_by}
use Rattle.pres_batch_rows.specs.TableOpening.{format_text}
use Rattle.pres_batch_rows.proofs.Plain.{format_is_read, row_left, row_same, commits_none}
use Rattle.pres_batch_rows.proofs.format.read_format.Goals as goal

pub returns-in-Err-clause-err : goal.returns-in-Err-clause-err
returns-in-Err-clause-err g c clean = inr (c.in-Err.error, c.in-Err.ensures.row clean, c.format_fault.ensures)

pub returns-in-Err-clause-left : goal.returns-in-Err-clause-left
returns-in-Err-clause-left g c clean alone =
    let old = state g.S.Store c.args.connection.now in
    let new = state g.S.Store c.query_row.new.self in
    let settled : IsTrue old.is_open → old.now ≡ old.committed = λ live. c.is_autocommit-alone.ensures.settled (rw (c.is_autocommit-alone.ensures.value, alone)) live in
    left_by old new settled alone (row_left format_text format_is_read old new (Err c.in-Err.error) (c.in-Err.ensures.row clean))

pub returns-in_default-clause-left : goal.returns-in_default-clause-left
returns-in_default-clause-left g c clean alone =
    let old = state g.S.Store c.args.connection.now in
    let new = state g.S.Store c.query_row.new.self in
    let settled : IsTrue old.is_open → old.now ≡ old.committed = λ live. c.is_autocommit-alone.ensures.settled (rw (c.is_autocommit-alone.ensures.value, alone)) live in
    left_by old new settled alone (row_left format_text format_is_read old new (Ok c.in-Ok.row) (c.in-Ok.ensures.row clean))

pub returns-then-format-eq3-clause-left : goal.returns-then-format-eq3-clause-left
returns-then-format-eq3-clause-left g c clean alone =
    let old = state g.S.Store c.args.connection.now in
    let new = state g.S.Store c.query_row.new.self in
    let settled : IsTrue old.is_open → old.now ≡ old.committed = λ live. c.is_autocommit-alone.ensures.settled (rw (c.is_autocommit-alone.ensures.value, alone)) live in
    left_by old new settled alone (row_left format_text format_is_read old new (Ok c.in-Ok.row) (c.in-Ok.ensures.row clean))

pub returns-clause-left : goal.returns-clause-left
returns-clause-left g c clean alone =
    let old = state g.S.Store c.args.connection.now in
    let new = state g.S.Store c.query_row.new.self in
    let settled : IsTrue old.is_open → old.now ≡ old.committed = λ live. c.is_autocommit-alone.ensures.settled (rw (c.is_autocommit-alone.ensures.value, alone)) live in
    left_by old new settled alone (row_left format_text format_is_read old new (Ok c.in-Ok.row) (c.in-Ok.ensures.row clean))

pub returns-then-format-eq3-clause-same : goal.returns-then-format-eq3-clause-same
returns-then-format-eq3-clause-same g c clean =
    row_same format_text format_is_read (state g.S.Store c.args.connection.now) (state g.S.Store c.query_row.new.self) c.in-Ok.row (c.in-Ok.ensures.row clean)

pub returns-in-Err-clause-crash : goal.returns-in-Err-clause-crash
returns-in-Err-clause-crash g c = commits_none format_text format_is_read (state g.S.Store c.args.connection.now) (state g.S.Store c.query_row.new.self) c.query_row.ensures.survives

pub returns-in_default-clause-crash : goal.returns-in_default-clause-crash
returns-in_default-clause-crash g c = commits_none format_text format_is_read (state g.S.Store c.args.connection.now) (state g.S.Store c.query_row.new.self) c.query_row.ensures.survives

pub returns-then-format-eq3-clause-crash : goal.returns-then-format-eq3-clause-crash
returns-then-format-eq3-clause-crash g c = commits_none format_text format_is_read (state g.S.Store c.args.connection.now) (state g.S.Store c.query_row.new.self) c.query_row.ensures.survives

pub returns-clause-crash : goal.returns-clause-crash
returns-clause-crash g c = commits_none format_text format_is_read (state g.S.Store c.args.connection.now) (state g.S.Store c.query_row.new.self) c.query_row.ensures.survives
