use Rattle.std.proofs.Common.{subst, ap, ◌∙◌, ◌+◌, ◌≡◌, [], ◌∷◌, ◌++◌}
use Rattle.std.specs.Result.{OnOk}
use Rattle.sqlite.specs.Held.{state}
use Rattle.pres_batch_rows.specs.TableStates.{AddsRows}
use Rattle.pres_batch_rows.specs.RowContents.{RowContent, rows_in, checkpoints_in, stored_from}
use Rattle.pres_server.specs.Histories.{with_batches}
use Rattle.pres_saved.specs.SqlKeepers.{saved_batch}
use Rattle.pres_saved.proofs.Committing.{save_all, still_ready, worked, committed, crashed, found}
use Rattle.pres_saved.proofs.Outlasting.{outlasts_more, lasts_committed}
use Rattle.pres_saved.proofs.sql.SqlKeeperKeeper.commit.Goals as goal

pub returns-clause-ready : goal.returns-clause-ready
returns-clause-ready g c =
    let s : RowContent = record { moment = c.in_ok-row.row.moment; body = c.as_str.result.now } in
    rw (← c.self.view_is) (λ ready.
    still_ready g.S.Store c.self.inside.table c.append.new.self (s ∷ []) c.append.result (c.append.ensures.serves ready.serves)
    (λ clean. c.append.ensures.ok clean ready.serves) (λ clean. c.append.ensures.err clean ready.serves) c.append.ensures.last
    (c.append.ensures.crash ready.serves) ready)

pub returns-clause-ok : goal.returns-clause-ok
returns-clause-ok g c =
    let b = c.args.batch.now in
    let s : RowContent = record { moment = c.in_ok-row.row.moment; body = c.as_str.result.now } in
    let is : s ≡ saved_batch b = ap (λ text. let saved : RowContent = record { moment = c.in_ok-row.row.moment; body = text } in saved) c.as_str.ensures.value ∙ c.in_ok-row.ensures.saves in
    rw (← c.self.view_is) (λ history ready works keeps first nulls.
    let next = save_all history (b ∷ []) (s ∷ []) (ap (λ row. row ∷ []) is) (c.in_ok-row.ensures.back, tt) (first, nulls, tt) in
    committed g.S.Store c.self.inside.table c.append.new.self (s ∷ []) c.append.result (c.append.ensures.serves ready.serves)
    (λ clean. c.append.ensures.ok clean ready.serves) (λ clean. c.append.ensures.err clean ready.serves) c.append.ensures.last
    history (b ∷ []) next (c.append.ensures.crash ready.serves) ready works keeps)

pub returns-clause-crash : goal.returns-clause-crash
returns-clause-crash g c =
    let b = c.args.batch.now in
    let s : RowContent = record { moment = c.in_ok-row.row.moment; body = c.as_str.result.now } in
    let is : s ≡ saved_batch b = ap (λ text. let saved : RowContent = record { moment = c.in_ok-row.row.moment; body = text } in saved) c.as_str.ensures.value ∙ c.in_ok-row.ensures.saves in
    rw (← c.self.view_is) (λ history ready keeps first nulls.
    let next = save_all history (b ∷ []) (s ∷ []) (ap (λ row. row ∷ []) is) (c.in_ok-row.ensures.back, tt) (first, nulls, tt) in
    crashed g.S.Store c.self.inside.table c.append.new.self (s ∷ []) c.append.result (c.append.ensures.serves ready.serves)
    (λ clean. c.append.ensures.ok clean ready.serves) (λ clean. c.append.ensures.err clean ready.serves) c.append.ensures.last
    history (b ∷ []) next ready keeps (c.append.ensures.crash ready.serves))

pub returns-clause-stored : goal.returns-clause-stored
returns-clause-stored g c =
    let b = c.args.batch.now in
    let s : RowContent = record { moment = c.in_ok-row.row.moment; body = c.as_str.result.now } in
    let is : s ≡ saved_batch b = ap (λ text. let saved : RowContent = record { moment = c.in_ok-row.row.moment; body = text } in saved) c.as_str.ensures.value ∙ c.in_ok-row.ensures.saves in
    rw (← c.self.view_is) (λ ready works.
    subst (λ row. OnOk c.append.result (AddsRows (state g.S.Store c.self.inside.table.connection) (state g.S.Store c.append.new.self.connection) (c.self.inside.table.last + 1) (row ∷ [])))
    is (c.append.ensures.ok works.clean ready.serves))

pub returns-clause-found : goal.returns-clause-found
returns-clause-found g c =
    let b = c.args.batch.now in
    let s : RowContent = record { moment = c.in_ok-row.row.moment; body = c.as_str.result.now } in
    let is : s ≡ saved_batch b = ap (λ text. let saved : RowContent = record { moment = c.in_ok-row.row.moment; body = text } in saved) c.as_str.ensures.value ∙ c.in_ok-row.ensures.saves in
    rw (← c.self.view_is) (λ history ready keeps first nulls held finds.
    let next = save_all history (b ∷ []) (s ∷ []) (ap (λ row. row ∷ []) is) (c.in_ok-row.ensures.back, tt) (first, nulls, tt) in
    found g.S.Store c.self.inside.table c.append.new.self (s ∷ []) c.append.result (c.append.ensures.serves ready.serves)
    (λ clean. c.append.ensures.ok clean ready.serves) (λ clean. c.append.ensures.err clean ready.serves) c.append.ensures.last
    history (b ∷ []) next ready keeps (c.append.ensures.crash ready.serves) held finds)

pub returns-clause-durable : goal.returns-clause-durable
returns-clause-durable g c =
    let b = c.args.batch.now in
    let s : RowContent = record { moment = c.in_ok-row.row.moment; body = c.as_str.result.now } in
    let is : s ≡ saved_batch b = ap (λ text. let saved : RowContent = record { moment = c.in_ok-row.row.moment; body = text } in saved) c.as_str.ensures.value ∙ c.in_ok-row.ensures.saves in
    rw (← c.self.view_is) (λ history ready keeps first nulls.
    let next = save_all history (b ∷ []) (s ∷ []) (ap (λ row. row ∷ []) is) (c.in_ok-row.ensures.back, tt) (first, nulls, tt) in
    let survives = c.append.ensures.crash ready.serves in
    let old = state g.S.Store c.self.inside.table.connection in
    lasts_committed g.S.Store c.self.inside.table c.append.new.self (checkpoints_in old) (rows_in old ++ stored_from (c.self.inside.table.last + 1) (s ∷ [])) c.append.result (with_batches history (b ∷ []))
    (λ clean. c.append.ensures.ok clean ready.serves) (λ clean. c.append.ensures.durable clean ready.serves)
    (λ works. committed g.S.Store c.self.inside.table c.append.new.self (s ∷ []) c.append.result (c.append.ensures.serves ready.serves)
    (λ clean. c.append.ensures.ok clean ready.serves) (λ clean. c.append.ensures.err clean ready.serves) c.append.ensures.last
    history (b ∷ []) next survives ready works
    (keeps (worked g.S.Store c.self.inside.table c.append.new.self (s ∷ []) c.append.result (c.append.ensures.serves ready.serves)
    (λ clean. c.append.ensures.ok clean ready.serves) (λ clean. c.append.ensures.err clean ready.serves) c.append.ensures.last survives works))))

pub returns-clause-outlasts : goal.returns-clause-outlasts
returns-clause-outlasts g c =
    let s : RowContent = record { moment = c.in_ok-row.row.moment; body = c.as_str.result.now } in
    rw (← c.self.view_is) (λ history ready lasts.
    outlasts_more g.S.Store c.self.inside.table c.append.new.self (c.self.inside.table.last + 1) (s ∷ []) (c.append.ensures.crash ready.serves) (λ clean. c.append.ensures.stays clean ready.serves) history lasts)
