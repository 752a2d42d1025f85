use Rattle.std.proofs.Common.{◌≡◌, ◌∙◌, ap, inl, [], IsTrue}
use Rattle.sqlite.specs.Held.{state}
use Rattle.pres_batch_rows.specs.TableOpening.{greatest_in}
use Rattle.pres_batch_rows.proofs.CheckpointStatements.{base_text}
use Rattle.pres_batch_rows.proofs.Basing.{shows_greatest}
use Rattle.pres_batch_rows.proofs.Inserting.{left_by}
use Rattle.pres_batch_rows.proofs.Finding.{any_ok}
use Rattle.pres_batch_rows.proofs.Opening.{match_ok}
use Rattle.pres_batch_rows.proofs.Plain.{base_is_read, shown_same, query_fails, commits_none}
use Rattle.pres_batch_rows.proofs.last.base_number.Goals as goal

pub returns-in_err-rows-clause-left : goal.returns-in_err-rows-clause-left
returns-in_err-rows-clause-left g c clean alone =
    let old = state g.S.Store c.args.connection.now in
    let new = state g.S.Store c.query_all.new.self in
    let settled : IsTrue old.is_open → old.now ≡ old.committed = λ live. c.is_autocommit-alone.ensures.settled (rw (c.is_autocommit-alone.ensures.value, alone)) live in
    left_by old new settled alone (query_fails old new base_text [] _ (c.in_err-rows.ensures.err clean))

pub returns-in_err-rows-clause-crash : goal.returns-in_err-rows-clause-crash
returns-in_err-rows-clause-crash g c =
    commits_none base_text base_is_read (state g.S.Store c.args.connection.now) (state g.S.Store c.query_all.new.self) c.query_all.ensures.survives

pub returns-clause-ok : goal.returns-clause-ok
returns-clause-ok g c clean two =
    let old = state g.S.Store c.args.connection.now in
    let new = state g.S.Store c.query_all.new.self in
    let shown = shows_greatest old new c.in_ok-rows.rows.items two (c.in_ok-rows.ensures.ok clean) in
    match_ok c.greatest.result _ _ _ (λ n it. it.0 ∙ ap greatest_in c.as_slice.ensures.value ∙ shown) c.greatest.ensures

pub returns-clause-same : goal.returns-clause-same
returns-clause-same g c clean =
    let old = state g.S.Store c.args.connection.now in
    let new = state g.S.Store c.query_all.new.self in
    any_ok c.greatest.result _ (shown_same base_text base_is_read old new _ (c.in_ok-rows.ensures.ok clean))

pub returns-clause-left : goal.returns-clause-left
returns-clause-left g c clean alone =
    let old = state g.S.Store c.args.connection.now in
    let new = state g.S.Store c.query_all.new.self in
    let settled : IsTrue old.is_open → old.now ≡ old.committed = λ live. c.is_autocommit-alone.ensures.settled (rw (c.is_autocommit-alone.ensures.value, alone)) live in
    left_by old new settled alone (inl (shown_same base_text base_is_read old new _ (c.in_ok-rows.ensures.ok clean)))

pub returns-clause-crash : goal.returns-clause-crash
returns-clause-crash g c =
    commits_none base_text base_is_read (state g.S.Store c.args.connection.now) (state g.S.Store c.query_all.new.self) c.query_all.ensures.survives
