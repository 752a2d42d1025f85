use Rattle.std.proofs.Common.{◌≡◌, ◌⊎◌, inl, inr, max, ◌+◌, [], refl, sym, subst, ◌∙◌, IsTrue, rules, arith}
use Rattle.sqlite.specs.State.{HasCleanDisk, IsUnchanged, IsRolledBack, Survives, CommitsShowing}
use Rattle.sqlite.specs.Held.{state}
use Rattle.sqlite.proofs.Callers.{unchanged_then}
use Rattle.pres_batch_rows.proofs.Statements.{select_text}
use Rattle.pres_batch_rows.specs.TableStates.{IsLeft}
use Rattle.pres_batch_rows.proofs.Plain.{rows_are_read, query_fails, begun_same, commits_none}
use Rattle.pres_batch_rows.proofs.Inserting.{left_by, left_later}
use Rattle.pres_batch_rows.proofs.Progress.{nothing_more}
use Rattle.pres_batch_rows.specs.RowContents.{AreBelow, rows_in}
use Rattle.pres_batch_rows.proofs.Finding.{Counting, counting_begins, counting_more, counted, chosen, chosen_low}
use Rattle.pres_batch_rows.proofs.last.last_number.Goals as goal
use Rattle.std.proofs.lemmas.Grind.{common_steps}

pub returns-in_err-rows-clause-left : goal.returns-in_err-rows-clause-left
returns-in_err-rows-clause-left g c clean alone =
    let old = state g.S.Store c.args.connection.now in
    let new = state g.S.Store c.query.follows.lender-at-none in
    let refused = rw c.in_err-rows.was at c.query.follows.holds-at-none in
    let settled : IsTrue old.is_open → old.now ≡ old.committed = λ live. c.is_autocommit-alone.ensures.settled (rw (c.is_autocommit-alone.ensures.value, alone)) live in
    left_by old new settled alone (query_fails old new select_text [] _ (refused.err clean))

pub rows-init : goal.rows-init
rows-init g c =
    let made = c.in_ok-rows.ensures in (
      refl,
      made.survives.clean,
      made.mode,
      omega arith,
      commits_none select_text rows_are_read (state g.S.Store c.args.connection.now) (state g.S.Store c.in_ok-rows.rows.conn.now) made.survives,
      λ clean. (begun_same select_text rows_are_read g.S.Store c.args.connection.now c.in_ok-rows.rows.conn.now (made.begun clean)).1,
      λ clean ours. counting_begins g.S.Store c.args.connection.now ours c.in_ok-rows.rows.conn.now (made.begun clean),
    )

pub returns-in_default-clause-ok : goal.returns-in_default-clause-ok
returns-in_default-clause-ok g c clean ours =
    let moved = c.next.follows.holds-at-none in
    let now = c.next.follows.lender-at-none.conn.now in
    let same : now ≡ c.connection-in_default-1.given.0 = search rules in
    let late : HasCleanDisk (state g.S.Store now) = subst (λ h. HasCleanDisk (state g.S.Store h)) (sym same) clean in
    let progress = c.rows.invariant.6 (omega (arith, moved.survives.clean, late)) ours in
    let it = counted g.S.Store c.args.connection.now ours c.rows.rows.conn.now c.rows.before c.rows.last progress now (rw (c.in_ok-row.was, c.in_default.is) at (moved.ok late)) in
    let any = c.if_any.ensures in
    let both = chosen c.rows.before c.rows.last c.if_any.result _ any.none any.some it.0.0 it.0.1 it.2 in
    (both.0, subst (λ n. AreBelow (n + 1) (rows_in (state g.S.Store c.args.connection.now))) (sym both.1) it.1)

pub returns-in_default-clause-bound : goal.returns-in_default-clause-bound
returns-in_default-clause-bound g c = chosen_low c.rows.before c.rows.last c.if_any.result c.if_any.ensures.none c.if_any.ensures.some c.rows.invariant.3

pub rows-preserved : goal.rows-preserved
rows-preserved g c =
    let moved = c.next.follows.holds-at-none in
    let now = c.next.follows.lender-at-none.conn.now in
    let number = c.in_ok-number_in.ensures in
    let last : c.max-last.result ≡ max c.rows.last c.in_ok-number_in.field-0 = search rules in (
      moved.same_reference ∙ c.rows.invariant.0,
      omega (arith, c.rows.invariant.1, moved.survives.clean),
      λ alone. moved.mode (c.rows.invariant.2 alone),
      omega (arith, c.rows.invariant.3, number.2, last),
      nothing_more (state g.S.Store c.args.connection.now) (state g.S.Store c.rows.rows.conn.now) (state g.S.Store now) c.rows.invariant.4 moved.survives,
      λ clean. unchanged_then (state g.S.Store c.args.connection.now) (state g.S.Store c.rows.rows.conn.now) (state g.S.Store now) (c.rows.invariant.5 (omega (arith, moved.survives.clean, clean))) (rw c.in_ok-row.was at (moved.same clean)),
      λ clean ours.
          let progress = c.rows.invariant.6 (omega (arith, moved.survives.clean, clean)) ours in
          let next = rw (c.in_ok-row.was, c.in-Some.is) at (moved.ok clean) in
          let stays = rw c.in_ok-row.was at (moved.same clean) in
          subst (Counting g.S.Store c.args.connection.now now (c.rows.before + 1)) (sym last)
          (counting_more g.S.Store c.args.connection.now ours c.rows.rows.conn.now c.rows.before c.rows.last progress now c.in-Some.row.now c.in_ok-number_in.field-0 next stays number.0 number.1),
    )

pub returns-in_err-rows-clause-crash : goal.returns-in_err-rows-clause-crash
returns-in_err-rows-clause-crash g c =
    let old = state g.S.Store c.args.connection.now in
    let new = state g.S.Store c.query.follows.lender-at-none in
    let held = c.query.follows.holds-at-none in
    let kept : Survives old new (CommitsShowing select_text [] old) = search rules in
    commits_none select_text rows_are_read old new kept

pub returns-in_err-row-clause-left : goal.returns-in_err-row-clause-left
returns-in_err-row-clause-left g c clean alone =
    let old = state g.S.Store c.args.connection.now in
    let held = state g.S.Store c.rows.rows.conn.now in
    let moved = c.next.follows.holds-at-none in
    let now = c.next.follows.lender-at-none.conn.now in
    let same : now ≡ c.connection-in_err-row-1.given.0 = search rules in
    let late : HasCleanDisk (state g.S.Store now) = subst (λ h. HasCleanDisk (state g.S.Store h)) (sym same) clean in
    let settled : IsTrue old.is_open → old.now ≡ old.committed = λ live. c.is_autocommit-alone.ensures.settled (rw (c.is_autocommit-alone.ensures.value, alone)) live in
    let after : IsUnchanged held (state g.S.Store now) ⊎ IsRolledBack held (state g.S.Store now) = elim (rw c.in_err-row.was at (moved.kept late)) [ inl failed ↦ inr failed.3 | inr still ↦ inl still ] in
    subst (λ h. IsLeft old (state g.S.Store h)) same (left_later old held (state g.S.Store now) settled alone (c.rows.invariant.5 (omega (arith, moved.survives.clean, late))) after)

pub returns-in_err-row-clause-crash : goal.returns-in_err-row-clause-crash
returns-in_err-row-clause-crash g c =
    let old = state g.S.Store c.args.connection.now in
    let moved = c.next.follows.holds-at-none in
    let now = c.next.follows.lender-at-none.conn.now in
    let same : now ≡ c.connection-in_err-row-1.given.0 = search rules in
    subst (λ h. Survives old (state g.S.Store h) (λ _. ⊥)) same (nothing_more old (state g.S.Store c.rows.rows.conn.now) (state g.S.Store now) c.rows.invariant.4 moved.survives)

pub returns-in_err-number_in-clause-left : goal.returns-in_err-number_in-clause-left
returns-in_err-number_in-clause-left g c clean alone =
    let old = state g.S.Store c.args.connection.now in
    let held = state g.S.Store c.rows.rows.conn.now in
    let moved = c.next.follows.holds-at-none in
    let now = c.next.follows.lender-at-none.conn.now in
    let same : now ≡ c.connection-in_err-number_in-1.given.0 = search rules in
    let late : HasCleanDisk (state g.S.Store now) = subst (λ h. HasCleanDisk (state g.S.Store h)) (sym same) clean in
    let settled : IsTrue old.is_open → old.now ≡ old.committed = λ live. c.is_autocommit-alone.ensures.settled (rw (c.is_autocommit-alone.ensures.value, alone)) live in
    let after : IsUnchanged held (state g.S.Store now) ⊎ IsRolledBack held (state g.S.Store now) = inl (rw c.in_ok-row.was at (moved.same late)) in
    subst (λ h. IsLeft old (state g.S.Store h)) same (left_later old held (state g.S.Store now) settled alone (c.rows.invariant.5 (omega (arith, moved.survives.clean, late))) after)

pub returns-in_err-number_in-clause-crash : goal.returns-in_err-number_in-clause-crash
returns-in_err-number_in-clause-crash g c =
    let old = state g.S.Store c.args.connection.now in
    let moved = c.next.follows.holds-at-none in
    let now = c.next.follows.lender-at-none.conn.now in
    let same : now ≡ c.connection-in_err-number_in-1.given.0 = search rules in
    subst (λ h. Survives old (state g.S.Store h) (λ _. ⊥)) same (nothing_more old (state g.S.Store c.rows.rows.conn.now) (state g.S.Store now) c.rows.invariant.4 moved.survives)

pub returns-in_default-clause-left : goal.returns-in_default-clause-left
returns-in_default-clause-left g c clean alone =
    let old = state g.S.Store c.args.connection.now in
    let held = state g.S.Store c.rows.rows.conn.now in
    let moved = c.next.follows.holds-at-none in
    let now = c.next.follows.lender-at-none.conn.now in
    let same : now ≡ c.connection-in_default-1.given.0 = search rules in
    let late : HasCleanDisk (state g.S.Store now) = subst (λ h. HasCleanDisk (state g.S.Store h)) (sym same) clean in
    let settled : IsTrue old.is_open → old.now ≡ old.committed = λ live. c.is_autocommit-alone.ensures.settled (rw (c.is_autocommit-alone.ensures.value, alone)) live in
    let after : IsUnchanged held (state g.S.Store now) ⊎ IsRolledBack held (state g.S.Store now) = inl (rw c.in_ok-row.was at (moved.same late)) in
    subst (λ h. IsLeft old (state g.S.Store h)) same (left_later old held (state g.S.Store now) settled alone (c.rows.invariant.5 (omega (arith, moved.survives.clean, late))) after)

pub returns-in_default-clause-crash : goal.returns-in_default-clause-crash
returns-in_default-clause-crash g c =
    let old = state g.S.Store c.args.connection.now in
    let moved = c.next.follows.holds-at-none in
    let now = c.next.follows.lender-at-none.conn.now in
    let same : now ≡ c.connection-in_default-1.given.0 = search rules in
    subst (λ h. Survives old (state g.S.Store h) (λ _. ⊥)) same (nothing_more old (state g.S.Store c.rows.rows.conn.now) (state g.S.Store now) c.rows.invariant.4 moved.survives)

pub returns-in_default-clause-same : goal.returns-in_default-clause-same
returns-in_default-clause-same g c clean =
    let old = state g.S.Store c.args.connection.now in
    let held = state g.S.Store c.rows.rows.conn.now in
    let moved = c.next.follows.holds-at-none in
    let now = c.next.follows.lender-at-none.conn.now in
    let same : now ≡ c.connection-in_default-1.given.0 = search rules in
    let late : HasCleanDisk (state g.S.Store now) = subst (λ h. HasCleanDisk (state g.S.Store h)) (sym same) clean in
    subst (λ h. IsUnchanged old (state g.S.Store h)) same (unchanged_then old held (state g.S.Store now) (c.rows.invariant.5 (omega (arith, moved.survives.clean, late))) (rw c.in_ok-row.was at (moved.same late)))

pub returns-clause-left : goal.returns-clause-left
returns-clause-left g c clean alone =
    let old = state g.S.Store c.args.connection.now in
    let held = state g.S.Store c.rows.rows.conn.now in
    let same : c.rows.rows.conn.now ≡ c.connection-2-1.given.0 = search rules in
    let late : HasCleanDisk held = subst (λ h. HasCleanDisk (state g.S.Store h)) (sym same) clean in
    let settled : IsTrue old.is_open → old.now ≡ old.committed = λ live. c.is_autocommit-alone.ensures.settled (rw (c.is_autocommit-alone.ensures.value, alone)) live in
    subst (λ h. IsLeft old (state g.S.Store h)) same (left_by old held settled alone (inl (c.rows.invariant.5 late)))

pub returns-clause-crash : goal.returns-clause-crash
returns-clause-crash g c =
    let same : c.rows.rows.conn.now ≡ c.connection-2-1.given.0 = search rules in
    subst (λ h. Survives (state g.S.Store c.args.connection.now) (state g.S.Store h) (λ _. ⊥)) same c.rows.invariant.4

pub returns-clause-mode : goal.returns-clause-mode
returns-clause-mode g c = grind (arith, common_steps)

pub returns-in_err-rows-clause-named : goal.returns-in_err-rows-clause-named
returns-in_err-rows-clause-named g c = grind (arith, common_steps)

pub returns-in_default-clause-mode : goal.returns-in_default-clause-mode
returns-in_default-clause-mode g c = grind (arith, common_steps)

pub returns-in_err-number_in-clause-clean : goal.returns-in_err-number_in-clause-clean
returns-in_err-number_in-clause-clean g c = grind (arith, common_steps)

pub returns-in_default-clause-clean : goal.returns-in_default-clause-clean
returns-in_default-clause-clean g c = grind (arith, common_steps)

pub returns-clause-named : goal.returns-clause-named
returns-clause-named g c = grind (arith, common_steps)

pub returns-clause-clean : goal.returns-clause-clean
returns-clause-clean g c = grind (arith, common_steps)

pub returns-in_err-number_in-clause-mode : goal.returns-in_err-number_in-clause-mode
returns-in_err-number_in-clause-mode g c = grind (arith, common_steps)

pub returns-in_err-row-clause-named : goal.returns-in_err-row-clause-named
returns-in_err-row-clause-named g c = grind (arith, common_steps)
