use Rattle.std.proofs.Common.{◌≡◌, ◌+◌, ◌∙◌, inl, inr, map, [], ap, subst, arith}
use Rattle.std.proofs.lemmas.Result.{err_from_is_err_and, on_ok_weaker}
use Rattle.sqlite.specs.Effect.{Database}
use Rattle.sqlite.specs.Held.{state}
use Rattle.sqlite.specs.State.{HasCleanDisk}
use Rattle.sqlite.proofs.StateLemmas.{survives_then}
use Rattle.sqlite.proofs.Callers.{unchanged_then}
use Rattle.pres_batch_rows.specs.RowContents.{AreBelow, shown_row}
use Rattle.pres_batch_rows.specs.TableOpening.{HasFormat, OpeningLeaves, last_in}
use Rattle.pres_batch_rows.proofs.Formats.{one_same, two_same}
use Rattle.pres_batch_rows.proofs.Finding.{both_ok, left_after}
use Rattle.pres_batch_rows.proofs.Making.{err_weaker}
use Rattle.pres_batch_rows.proofs.Opening.{is_one, is_two, migrated_after, holds_after, found_one, found_two, ok_so, on_err_so, on_err_any}
use Rattle.pres_batch_rows.proofs.format.find.Goals as goal

pub returns-in_err-format-clause-err : goal.returns-in_err-format-clause-err
returns-in_err-format-clause-err g c clean =
    let p = err_from_is_err_and c.from_residual.result c.from_residual.ensures.1 in
    rw (p.1, p.2) (inl (c.read_format.new.connection, c.in_err-format.ensures.err clean))

-- ---- format 1

pub returns-then-format-eq1-clause-found : goal.returns-then-format-eq1-clause-found
returns-then-format-eq1-clause-found g c clean ours =
    let old = state g.S.Store c.args.connection.now in
    let mid = state g.S.Store c.read_format.new.connection in
    let new = state g.S.Store c.upgrade.new.connection in
    let early : HasCleanDisk mid = omega (arith, c.upgrade.ensures.crash.clean, clean) in
    let is : c.in_ok-format.format ≡ 1 = omega (arith, c.if-format-eq1.true) in
    let same = c.in_ok-format.ensures.same early in
    let one = is_one old mid ours (subst (λ n. HasFormat n old mid) is (c.in_ok-format.ensures.ok early)) in
    ok_so c.upgrade.result _ _ (λ n it.
    found_one old new n one (migrated_after old mid new same it.0) (it.1 ∙ ap (λ (d : Database). last_in [] (map shown_row (d.trees 2))) same.0.now_is)
    (subst (λ (d : Database). AreBelow (n + 1) (d.trees 2)) same.0.now_is it.2))
    (c.upgrade.ensures.ok clean (one_same old mid same.0.now_is one))

pub returns-then-format-eq1-clause-opens : goal.returns-then-format-eq1-clause-opens
returns-then-format-eq1-clause-opens g c clean =
    let held = c.read_format.new.connection in
    let old = state g.S.Store c.args.connection.now in
    let mid = state g.S.Store held in
    let early : HasCleanDisk mid = omega (arith, c.upgrade.ensures.crash.clean, clean) in
    let is : c.in_ok-format.format ≡ 1 = omega (arith, c.if-format-eq1.true) in
    let has = subst (λ n. HasFormat n old mid) is (c.in_ok-format.ensures.ok early) in
    let same = c.in_ok-format.ensures.same early in
    on_ok_weaker c.upgrade.result (λ it. inr (held, has, it.0, unchanged_then old mid (state g.S.Store it.0) same it.1, it.2)) (c.upgrade.ensures.migrates clean)

pub returns-then-format-eq1-clause-err : goal.returns-then-format-eq1-clause-err
returns-then-format-eq1-clause-err g c clean =
    let held = c.read_format.new.connection in
    let old = state g.S.Store c.args.connection.now in
    let mid = state g.S.Store held in
    let early : HasCleanDisk mid = omega (arith, c.upgrade.ensures.crash.clean, clean) in
    let is : c.in_ok-format.format ≡ 1 = omega (arith, c.if-format-eq1.true) in
    let has = subst (λ n. HasFormat n old mid) is (c.in_ok-format.ensures.ok early) in
    let same = c.in_ok-format.ensures.same early in
    err_weaker c.upgrade.result _ _ (λ e why. elim why [
      | inl it ↦ inr (inl (held, has, it.0, unchanged_then old mid (state g.S.Store it.0) same it.1, it.2, it.3, it.4))
      | inr store ↦ inr (inr store)
    ]) (c.upgrade.ensures.err clean)

pub returns-then-format-eq1-clause-left : goal.returns-then-format-eq1-clause-left
returns-then-format-eq1-clause-left g c clean =
    let old = state g.S.Store c.args.connection.now in
    let mid = state g.S.Store c.read_format.new.connection in
    let new = state g.S.Store c.upgrade.new.connection in
    let early : HasCleanDisk mid = omega (arith, c.upgrade.ensures.crash.clean, clean) in
    on_err_so c.upgrade.result (left_after old mid new (c.in_ok-format.ensures.same early)) (c.upgrade.ensures.left clean)

pub returns-then-format-eq1-clause-crash : goal.returns-then-format-eq1-clause-crash
returns-then-format-eq1-clause-crash g c =
    let held = c.read_format.new.connection in
    let old = state g.S.Store c.args.connection.now in
    let mid = state g.S.Store held in
    let new = state g.S.Store c.upgrade.new.connection in
    let is : c.in_ok-format.format ≡ 1 = omega (arith, c.if-format-eq1.true) in
    survives_then old mid new _ _ (OpeningLeaves g.S.Store c.args.connection.now) (λ _ db none. absurd none)
    (λ clean db may.
    let early : HasCleanDisk mid = omega (arith, c.upgrade.ensures.crash.clean, clean) in
    let same = c.in_ok-format.ensures.same early in
    let has = subst (λ n. HasFormat n old mid) is (c.in_ok-format.ensures.ok early) in
    (held, has, (λ one. holds_after old mid db same (may (one_same old mid same.0.now_is one)))))
    c.read_format.ensures.crash c.upgrade.ensures.crash

-- ---- format 2

pub returns-else-format-eq1-clause-found : goal.returns-else-format-eq1-clause-found
returns-else-format-eq1-clause-found g c clean ours =
    let old = state g.S.Store c.args.connection.now in
    let mid = state g.S.Store c.read_format.new.connection in
    let new = state g.S.Store c.last_in_two.new.connection in
    let early : HasCleanDisk mid = omega (arith, c.last_in_two.ensures.crash.clean, clean) in
    let is : c.in_ok-format.format ≡ 2 = elim c.in_ok-format.ensures.named [ inl one ↦ absurd (omega (arith, one, c.if-format-eq1.false)) | inr two ↦ two ] in
    let same = c.in_ok-format.ensures.same early in
    let two = is_two old mid ours (subst (λ n. HasFormat n old mid) is (c.in_ok-format.ensures.ok early)) in
    both_ok c.last_in_two.result _ _ _ (λ n counted second. found_two old mid new n two c.requires same second counted)
    (c.last_in_two.ensures.ok clean (two_same old mid same.0.now_is two)) (c.last_in_two.ensures.same clean)

pub returns-else-format-eq1-clause-opens : goal.returns-else-format-eq1-clause-opens
returns-else-format-eq1-clause-opens g c clean =
    let held = c.read_format.new.connection in
    let old = state g.S.Store c.args.connection.now in
    let mid = state g.S.Store held in
    let early : HasCleanDisk mid = omega (arith, c.last_in_two.ensures.crash.clean, clean) in
    let is : c.in_ok-format.format ≡ 2 = elim c.in_ok-format.ensures.named [ inl one ↦ absurd (omega (arith, one, c.if-format-eq1.false)) | inr two ↦ two ] in
    let has = subst (λ n. HasFormat n old mid) is (c.in_ok-format.ensures.ok early) in
    let same = c.in_ok-format.ensures.same early in
    on_ok_weaker c.last_in_two.result (λ second. inl (held, has, record { was_open = same.0.was_open; now = second.0.now_is ∙ same.0.now_is; committed = second.0.committed_is ∙ same.0.committed_is }))
    (c.last_in_two.ensures.same clean)

pub returns-else-format-eq1-clause-err : goal.returns-else-format-eq1-clause-err
returns-else-format-eq1-clause-err g c clean = err_weaker c.last_in_two.result _ _ (λ e store. inr (inr store)) c.last_in_two.ensures.named

pub returns-else-format-eq1-clause-left : goal.returns-else-format-eq1-clause-left
returns-else-format-eq1-clause-left g c clean =
    let old = state g.S.Store c.args.connection.now in
    let mid = state g.S.Store c.read_format.new.connection in
    let new = state g.S.Store c.last_in_two.new.connection in
    let early : HasCleanDisk mid = omega (arith, c.last_in_two.ensures.crash.clean, clean) in
    let same = c.in_ok-format.ensures.same early in
    on_err_any c.last_in_two.result (left_after old mid new same (c.last_in_two.ensures.left clean (same.0.mode ∙ c.requires)))

pub returns-else-format-eq1-clause-crash : goal.returns-else-format-eq1-clause-crash
returns-else-format-eq1-clause-crash g c =
    survives_then (state g.S.Store c.args.connection.now) (state g.S.Store c.read_format.new.connection) (state g.S.Store c.last_in_two.new.connection) _ _ (OpeningLeaves g.S.Store c.args.connection.now)
    (λ _ db none. absurd none) (λ _ db none. absurd none) c.read_format.ensures.crash c.last_in_two.ensures.crash
