use Rattle.std.proofs.Common.{rules, ◌≡◌, ◌⊎◌, refl, IsTrue, ◌+◌, ◌++◌, ◌∷◌, [], map, take, length, get_or, string_bytes, sym, ap, subst, ◌∙◌, arith, to_z, w64, pos, true}
use Rattle.std.proofs.lemmas.Int.{ints}
use Rattle.std.proofs.lemmas.Result.{err_from_is_err_and}
use Rattle.std.proofs.lemmas.List.{get_or_read, map_more, length-map, length-take-le, take_all}
use Rattle.std.specs.List.{AllByRecursion}
use Rattle.sqlite.specs.Held.{state}
use Rattle.sqlite.specs.State.{HasCleanDisk, IsUnchanged, IsRolledBack, Survives}
use Rattle.sqlite.proofs.Callers.{survives_begin}
use Rattle.pres_batch_rows.specs.TableStates.{IsLeft}
use Rattle.pres_batch_rows.proofs.Inserting.{not_run}
use Rattle.pres_batch_rows.specs.RowContents.{HasMoment, saved_of}
use Rattle.pres_batch_rows.proofs.Statements.{insert_text}
use Rattle.pres_batch_rows.proofs.Grouping.{HasPut, WithRows, moments_push, put_none, left_undone, put_next, survives_more, survives_commit}
use Rattle.pres_batch_rows.proofs.insert.insert_all.Goals as goal

-- ---- the statement isn't understood, or the store is shut

pub returns-in_err-statement-clause-err : goal.returns-in_err-statement-clause-err
returns-in_err-statement-clause-err g c clean awaits =
    let was = c.args.connection.now in
    let old = state g.S.Store was in
    let begun = c.transaction-tx.ensures.begun in
    let mid = state g.S.Store c.prepare.new.self.conn.now in
    let end = c.drop-tx.new.self.0 in
    let same : end ≡ c.connection-1.given.0 = search rules in
    let ended : HasCleanDisk (state g.S.Store end) = rw (same) clean in
    let late : HasCleanDisk mid = omega (arith, c.drop-tx.ensures.survives.clean, ended) in
    let begins = rw begun at c.prepare.ensures.survives.clean in
    let early : HasCleanDisk old = omega (arith, begins, late) in
    let settled : IsTrue old.is_open → old.now ≡ old.committed = λ live. c.is_autocommit.ensures.settled (rw (c.is_autocommit.ensures.value, (awaits early).alone)) live in
    let start = state g.S.Store (record was { in_transaction = true }) in
    let refused : IsUnchanged start mid ⊎ IsRolledBack start mid = not_run start mid insert_text [] c.in_err-statement.field-0.0 (rw begun at (c.in_err-statement.ensures.err late [])) in
    let p = err_from_is_err_and c.from_residual.result c.from_residual.ensures.1 in
    rw (p.1) (subst (λ h. IsLeft old (state g.S.Store h)) same (left_undone g.S.Store was mid (state g.S.Store end) settled refused (c.drop-tx.ensures.undone ended)))

-- ---- no row is put yet

pub loop-row-init : goal.loop-row-init
loop-row-init g c =
    let was = c.args.connection.now in
    let begun = c.transaction-tx.ensures.begun in
    let held = state g.S.Store c.prepare.new.self.conn.now in (
      refl,
      omega arith,
      survives_begin g.S.Store was held (λ _. ⊥) (rw begun at c.prepare.ensures.survives),
      λ clean. let known = (c.in_ok-statement.ensures.ok clean).0 in search (rules, known),
      λ clean awaits. put_none g.S.Store was held c.args.first (rw begun at (c.in_ok-statement.ensures.ok clean).1),
      tt,
    )

-- ---- a row is put

pub loop-row-preserved : goal.loop-row-preserved
loop-row-preserved g c =
    let old = state g.S.Store c.args.connection.now in
    let held = state g.S.Store c.loop-row.tx.conn.now in
    let next = state g.S.Store c.execute_prepared.new.self.conn.now in
    let rows = c.args.rows.now in
    let at = c.loop-row.row-index in
    let row = c.row-item.result in
    let was = c.loop-row.invariant in
    let moved = c.execute_prepared.ensures.survives in
    let ek : to_z w64 c.loop-row.number ≡ pos c.loop-row.number = omega (arith, ints, c.requires, was.1, c.loop-row-test.true) in
    let em : to_z w64 c.millis-moment.result ≡ pos row.moment = omega (arith, ints, c.millis-moment.ensures.millis, c.millis-moment.ensures.bound) in
    let et : c.as_bytes-text.result.now ≡ string_bytes row.body = search rules in
    let there : row ≡ get_or rows at row = get_or_read rows at row c.loop-row-test.true c.row-item.is row in
    let put = map saved_of (take at rows) in
    let number : c.loop-row.number ≡ c.args.first + length put = omega (arith, was.1, length-map (take at rows) saved_of, length-take-le at rows (omega (arith, c.loop-row-test.true))) in
    let more : put ++ saved_of row ∷ [] ≡ map saved_of (take (at + 1) rows) = ap (λ r. put ++ saved_of r ∷ []) there ∙ sym (map_more saved_of rows at row c.loop-row-test.true) in (
      c.execute_prepared.ensures.same_reference ∙ was.0,
      omega (arith, was.1),
      survives_more old held next was.2 moved,
      λ clean. was.3 (omega (arith, moved.clean, clean)),
      λ clean awaits.
          let late : HasCleanDisk held = omega (arith, moved.clean, clean) in
          let early : HasCleanDisk old = omega (arith, was.2.clean, late) in
          let has = was.4 late awaits in
          let ran = c.in_ok-execute_prepared.ensures.runs clean has.mode in
          let inside = was.3 late in
          let text : c.in_ok-statement.statement.text ≡ insert_text = search (rules, inside) in
          subst (HasPut old next c.args.first) more (put_next old held next c.args.first put (saved_of row) c.in_ok-execute_prepared.field-0 (awaits early) has (rw (text, ek, em, et, number) at ran)),
      subst (AllByRecursion HasMoment) more (moments_push put (saved_of row) was.5 (omega (arith, c.millis-moment.ensures.millis, c.millis-moment.ensures.bound))),
    )

-- ---- the commit is refused

pub returns-in_err-commit-clause-crash : goal.returns-in_err-commit-clause-crash
returns-in_err-commit-clause-crash g c awaits =
    let old = state g.S.Store c.args.connection.now in
    let held = state g.S.Store c.loop-row.tx.conn.now in
    let end = c.commit.new.self.0 in
    let rows = c.args.rows.now in
    let first = c.args.first in
    let same : end ≡ c.connection-2-1.given.0 = search rules in
    let all : take c.loop-row.row-index rows ≡ rows = take_all c.loop-row.row-index rows (omega (arith, c.loop-row-test.false)) in
    let has : HasCleanDisk (state g.S.Store end) → HasPut old held first (map saved_of rows) =
    λ clean. subst (λ r. HasPut old held first (map saved_of r)) all (c.loop-row.invariant.4 (omega (arith, c.commit.ensures.survives.clean, clean)) awaits) in
    subst (λ h. Survives old (state g.S.Store h) (WithRows old first (map saved_of rows))) same
    (survives_commit old held (state g.S.Store end) first (map saved_of rows) has c.loop-row.invariant.2 c.commit.ensures.survives)
