use Rattle.std.proofs.Common.{subst, sym, ap, ◌∙◌, ◌+◌, ◌≡◌, ◌++◌, if◌then◌else◌, map}
use Rattle.std.proofs.lemmas.List.{length-map}
use Rattle.std.specs.Result.{is_ok, OnOk}
use Rattle.sqlite.specs.Held.{state}
use Rattle.pres_batch_rows.specs.TableStates.{AddsRows}
use Rattle.pres_batch_rows.specs.RowContents.{saved_of, rows_in, checkpoints_in, stored_from}
use Rattle.pres_server.specs.Histories.{with_batches}
use Rattle.pres_saved.specs.SqlKeepers.{saved_batch}
use Rattle.pres_saved.proofs.Committing.{save_all, still_ready, worked, committed, crashed, found}
use Rattle.pres_saved.proofs.Outlasting.{outlasts_more, lasts_committed}
use Rattle.pres_saved.proofs.sql.SqlKeeperKeeper.commit_all.Goals as goal

pub returns-clause-ready : goal.returns-clause-ready
returns-clause-ready g c =
    let rows = c.as_slice.result.now in
    let all = map saved_of rows in
    let last = c.append_all.ensures.last ∙ ap (λ n. if is_ok c.append_all.result then c.self.inside.table.last + n else c.self.inside.table.last) (sym (length-map rows saved_of)) in
    rw (← c.self.view_is) (λ ready.
    still_ready g.S.Store c.self.inside.table c.append_all.new.self all c.append_all.result (c.append_all.ensures.serves ready.serves)
    (λ clean. c.append_all.ensures.ok clean ready.serves) (λ clean. c.append_all.ensures.err clean ready.serves) last
    (c.append_all.ensures.crash ready.serves) ready)

pub returns-clause-ok : goal.returns-clause-ok
returns-clause-ok g c =
    let batches = c.args.batches.now in
    let rows = c.as_slice.result.now in
    let all = map saved_of rows in
    let last = c.append_all.ensures.last ∙ ap (λ n. if is_ok c.append_all.result then c.self.inside.table.last + n else c.self.inside.table.last) (sym (length-map rows saved_of)) in
    let is : all ≡ map saved_batch batches = ap (map saved_of) c.as_slice.ensures.value ∙ c.in_ok-rows.ensures.save in
    rw (← c.self.view_is) (λ history ready works keeps follow.
    let next = save_all history batches all is c.in_ok-rows.ensures.back follow in
    committed g.S.Store c.self.inside.table c.append_all.new.self all c.append_all.result (c.append_all.ensures.serves ready.serves)
    (λ clean. c.append_all.ensures.ok clean ready.serves) (λ clean. c.append_all.ensures.err clean ready.serves) last
    history batches next (c.append_all.ensures.crash ready.serves) ready works keeps)

pub returns-clause-crash : goal.returns-clause-crash
returns-clause-crash g c =
    let batches = c.args.batches.now in
    let rows = c.as_slice.result.now in
    let all = map saved_of rows in
    let last = c.append_all.ensures.last ∙ ap (λ n. if is_ok c.append_all.result then c.self.inside.table.last + n else c.self.inside.table.last) (sym (length-map rows saved_of)) in
    let is : all ≡ map saved_batch batches = ap (map saved_of) c.as_slice.ensures.value ∙ c.in_ok-rows.ensures.save in
    rw (← c.self.view_is) (λ history ready keeps follow.
    let next = save_all history batches all is c.in_ok-rows.ensures.back follow in
    crashed g.S.Store c.self.inside.table c.append_all.new.self all c.append_all.result (c.append_all.ensures.serves ready.serves)
    (λ clean. c.append_all.ensures.ok clean ready.serves) (λ clean. c.append_all.ensures.err clean ready.serves) last
    history batches next ready keeps (c.append_all.ensures.crash ready.serves))

pub returns-clause-stored : goal.returns-clause-stored
returns-clause-stored g c =
    let batches = c.args.batches.now in
    let rows = c.as_slice.result.now in
    let all = map saved_of rows in
    let is : all ≡ map saved_batch batches = ap (map saved_of) c.as_slice.ensures.value ∙ c.in_ok-rows.ensures.save in
    rw (← c.self.view_is) (λ ready works.
    subst (λ saved. OnOk c.append_all.result (AddsRows (state g.S.Store c.self.inside.table.connection) (state g.S.Store c.append_all.new.self.connection) (c.self.inside.table.last + 1) saved))
    is (c.append_all.ensures.ok works.clean ready.serves))

pub returns-clause-found : goal.returns-clause-found
returns-clause-found g c =
    let batches = c.args.batches.now in
    let rows = c.as_slice.result.now in
    let all = map saved_of rows in
    let last = c.append_all.ensures.last ∙ ap (λ n. if is_ok c.append_all.result then c.self.inside.table.last + n else c.self.inside.table.last) (sym (length-map rows saved_of)) in
    let is : all ≡ map saved_batch batches = ap (map saved_of) c.as_slice.ensures.value ∙ c.in_ok-rows.ensures.save in
    rw (← c.self.view_is) (λ history ready keeps follow held finds.
    let next = save_all history batches all is c.in_ok-rows.ensures.back follow in
    found g.S.Store c.self.inside.table c.append_all.new.self all c.append_all.result (c.append_all.ensures.serves ready.serves)
    (λ clean. c.append_all.ensures.ok clean ready.serves) (λ clean. c.append_all.ensures.err clean ready.serves) last
    history batches next ready keeps (c.append_all.ensures.crash ready.serves) held finds)

pub returns-clause-durable : goal.returns-clause-durable
returns-clause-durable g c =
    let batches = c.args.batches.now in
    let rows = c.as_slice.result.now in
    let all = map saved_of rows in
    let last = c.append_all.ensures.last ∙ ap (λ n. if is_ok c.append_all.result then c.self.inside.table.last + n else c.self.inside.table.last) (sym (length-map rows saved_of)) in
    let is : all ≡ map saved_batch batches = ap (map saved_of) c.as_slice.ensures.value ∙ c.in_ok-rows.ensures.save in
    rw (← c.self.view_is) (λ history ready keeps follow.
    let next = save_all history batches all is c.in_ok-rows.ensures.back follow in
    let survives = c.append_all.ensures.crash ready.serves in
    let old = state g.S.Store c.self.inside.table.connection in
    lasts_committed g.S.Store c.self.inside.table c.append_all.new.self (checkpoints_in old) (rows_in old ++ stored_from (c.self.inside.table.last + 1) all) c.append_all.result (with_batches history batches)
    (λ clean. c.append_all.ensures.ok clean ready.serves) (λ clean. c.append_all.ensures.durable clean ready.serves)
    (λ works. committed g.S.Store c.self.inside.table c.append_all.new.self all c.append_all.result (c.append_all.ensures.serves ready.serves)
    (λ clean. c.append_all.ensures.ok clean ready.serves) (λ clean. c.append_all.ensures.err clean ready.serves) last
    history batches next survives ready works
    (keeps (worked g.S.Store c.self.inside.table c.append_all.new.self all c.append_all.result (c.append_all.ensures.serves ready.serves)
    (λ clean. c.append_all.ensures.ok clean ready.serves) (λ clean. c.append_all.ensures.err clean ready.serves) last survives works))))

pub returns-clause-outlasts : goal.returns-clause-outlasts
returns-clause-outlasts g c = rw (← c.self.view_is) (λ history ready lasts.
    outlasts_more g.S.Store c.self.inside.table c.append_all.new.self (c.self.inside.table.last + 1) (map saved_of c.as_slice.result.now) (c.append_all.ensures.crash ready.serves) (λ clean. c.append_all.ensures.stays clean ready.serves) history lasts)
