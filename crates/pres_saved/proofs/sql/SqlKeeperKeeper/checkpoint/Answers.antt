use Rattle.std.proofs.Common.{◌≡◌, ◌∙◌, subst, sym}
use Rattle.sqlite.specs.Held.{state}
use Rattle.pres_batch_rows.specs.RowContents.{RowContent, saved_of}
use Rattle.pres_batch_rows.specs.TableStates.{IsCheckpointed}
use Rattle.pres_batch_rows.proofs.Opening.{ok_so}
use Rattle.pres_saved.specs.SqlKeepers.{saved_checkpoint, IsBaseReadBack}
use Rattle.pres_saved.proofs.Checkpointing.{still_ready, worked, refused, replaced, crashed, found, durable, outlasts}
use Rattle.pres_saved.proofs.sql.SqlKeeperKeeper.checkpoint.Goals as goal

pub returns-clause-ready : goal.returns-clause-ready
returns-clause-ready g c =
    let s : RowContent = record { moment = c.in_ok-row.row.moment; body = c.as_str.result.now } in
    rw (← c.self.view_is) (λ ready.
    still_ready g.S.Store c.self.inside.table c.checkpoint.new.self s c.checkpoint.result (λ clean. c.checkpoint.ensures.ok clean ready.serves) (λ clean. c.checkpoint.ensures.err clean ready.serves) (c.checkpoint.ensures.crash ready.serves)
    (c.checkpoint.ensures.serves ready.serves) c.checkpoint.ensures.last ready)

pub returns-clause-worked : goal.returns-clause-worked
returns-clause-worked g c =
    let s : RowContent = record { moment = c.in_ok-row.row.moment; body = c.as_str.result.now } in
    rw (← c.self.view_is) (λ ready works.
    worked g.S.Store c.self.inside.table c.checkpoint.new.self s c.checkpoint.result (λ clean. c.checkpoint.ensures.ok clean ready.serves) (λ clean. c.checkpoint.ensures.err clean ready.serves) (c.checkpoint.ensures.crash ready.serves) works)

pub returns-clause-ok : goal.returns-clause-ok
returns-clause-ok g c =
    let s : RowContent = record { moment = c.in_ok-row.row.moment; body = c.as_str.result.now } in
    let is : saved_of c.in_ok-row.row ≡ s = λ i. record { moment = c.in_ok-row.row.moment; body = sym c.as_str.ensures.value i } in
    let back = subst (IsBaseReadBack c.args.server.now.sum) is (c.in_ok-row.ensures.back c.requires) in
    rw (← c.self.view_is) (λ history ready works keeps leads.
    replaced g.S.Store c.self.inside.table c.checkpoint.new.self s c.checkpoint.result (λ clean. c.checkpoint.ensures.ok clean ready.serves) (λ clean. c.checkpoint.ensures.err clean ready.serves) (c.checkpoint.ensures.crash ready.serves)
    c.args.server.now.sum back ready history leads works keeps)

pub returns-clause-replaced : goal.returns-clause-replaced
returns-clause-replaced g c =
    let s : RowContent = record { moment = c.in_ok-row.row.moment; body = c.as_str.result.now } in
    let made = c.in_ok-row.ensures.saves in
    let is : s ≡ saved_checkpoint made.0 = (λ i. record { moment = c.in_ok-row.row.moment; body = c.as_str.ensures.value i }) ∙ made.2 in
    rw (← c.self.view_is) (λ ready works.
    ok_so c.checkpoint.result _ _
    (λ _ put. (made.0, made.1, subst (IsCheckpointed (state g.S.Store c.self.inside.table.connection) (state g.S.Store c.checkpoint.new.self.connection) c.self.inside.table.last) is put))
    (c.checkpoint.ensures.ok works.clean ready.serves))

pub returns-clause-err : goal.returns-clause-err
returns-clause-err g c =
    let s : RowContent = record { moment = c.in_ok-row.row.moment; body = c.as_str.result.now } in
    rw (← c.self.view_is) (λ history ready works keeps.
    refused g.S.Store c.self.inside.table c.checkpoint.new.self s c.checkpoint.result (λ clean. c.checkpoint.ensures.ok clean ready.serves) (λ clean. c.checkpoint.ensures.err clean ready.serves) (c.checkpoint.ensures.crash ready.serves) history works keeps)

pub returns-clause-crash : goal.returns-clause-crash
returns-clause-crash g c =
    let s : RowContent = record { moment = c.in_ok-row.row.moment; body = c.as_str.result.now } in
    let is : saved_of c.in_ok-row.row ≡ s = λ i. record { moment = c.in_ok-row.row.moment; body = sym c.as_str.ensures.value i } in
    let back = subst (IsBaseReadBack c.args.server.now.sum) is (c.in_ok-row.ensures.back c.requires) in
    rw (← c.self.view_is) (λ history ready keeps leads.
    crashed g.S.Store c.self.inside.table c.checkpoint.new.self s c.checkpoint.result (λ clean. c.checkpoint.ensures.ok clean ready.serves) (λ clean. c.checkpoint.ensures.err clean ready.serves) (c.checkpoint.ensures.crash ready.serves)
    c.args.server.now.sum back ready history leads keeps)

pub returns-clause-found : goal.returns-clause-found
returns-clause-found g c =
    let s : RowContent = record { moment = c.in_ok-row.row.moment; body = c.as_str.result.now } in
    let is : saved_of c.in_ok-row.row ≡ s = λ i. record { moment = c.in_ok-row.row.moment; body = sym c.as_str.ensures.value i } in
    let back = subst (IsBaseReadBack c.args.server.now.sum) is (c.in_ok-row.ensures.back c.requires) in
    rw (← c.self.view_is) (λ history ready keeps leads held finds.
    found g.S.Store c.self.inside.table c.checkpoint.new.self s c.checkpoint.result (λ clean. c.checkpoint.ensures.ok clean ready.serves) (λ clean. c.checkpoint.ensures.err clean ready.serves) (c.checkpoint.ensures.crash ready.serves)
    c.args.server.now.sum back ready history leads keeps held finds)

pub returns-clause-durable : goal.returns-clause-durable
returns-clause-durable g c =
    let s : RowContent = record { moment = c.in_ok-row.row.moment; body = c.as_str.result.now } in
    let is : saved_of c.in_ok-row.row ≡ s = λ i. record { moment = c.in_ok-row.row.moment; body = sym c.as_str.ensures.value i } in
    let back = subst (IsBaseReadBack c.args.server.now.sum) is (c.in_ok-row.ensures.back c.requires) in
    rw (← c.self.view_is) (λ history ready keeps leads.
    durable g.S.Store c.self.inside.table c.checkpoint.new.self s c.checkpoint.result (λ clean. c.checkpoint.ensures.ok clean ready.serves) (λ clean. c.checkpoint.ensures.err clean ready.serves) (c.checkpoint.ensures.crash ready.serves)
    c.args.server.now.sum back ready history leads keeps (λ clean. c.checkpoint.ensures.durable clean ready.serves))

pub returns-clause-outlasts : goal.returns-clause-outlasts
returns-clause-outlasts g c =
    let s : RowContent = record { moment = c.in_ok-row.row.moment; body = c.as_str.result.now } in
    let is : saved_of c.in_ok-row.row ≡ s = λ i. record { moment = c.in_ok-row.row.moment; body = sym c.as_str.ensures.value i } in
    let back = subst (IsBaseReadBack c.args.server.now.sum) is (c.in_ok-row.ensures.back c.requires) in
    rw (← c.self.view_is) (λ history earlier ready keeps leads lasts.
    outlasts g.S.Store c.self.inside.table c.checkpoint.new.self s c.checkpoint.result (λ clean. c.checkpoint.ensures.ok clean ready.serves) (λ clean. c.checkpoint.ensures.err clean ready.serves) (c.checkpoint.ensures.crash ready.serves)
    c.args.server.now.sum back ready history leads earlier keeps (λ clean. c.checkpoint.ensures.stays clean ready.serves) lasts)
