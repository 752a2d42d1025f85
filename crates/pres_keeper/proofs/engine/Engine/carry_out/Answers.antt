use Rattle.std.proofs.Common.{◌≡◌, Some, ap, sym, subst, ◌∙◌, arith}
use Rattle.std.proofs.lemmas.Grind.{common_steps}
use Rattle.pres_keeper.specs.declared.settlement.Unsettled.{Unsettled}
use Rattle.pres_keeper.specs.Keepers.{SomeHistory}
use Rattle.pres_keeper.specs.Settlements.{IsUnsettled, KeepsUnsettled, history_with}
use Rattle.pres_keeper.specs.Engines.{EngineState}
use Rattle.pres_keeper.proofs.Invariants.{runs_so}
use Rattle.pres_keeper.proofs.engine.Engine.carry_out.Goals as goal

pub invariant_of-self-in-Err-Refused : goal.invariant_of-self-in-Err-Refused
invariant_of-self-in-Err-Refused g c =
    let K = g.K.Keeper in
    let busy = c.args.busy in
    let ready = c.self.invariant.is_ready in
    let undone = subst (IsUnsettled busy.state) c.in-Err-Refused.field-0-is c.in-Err-Refused.ensures.undone in
    let was = subst (λ (e : EngineState g.row.K.Denot). SomeHistory (λ history. K.works e.keeper → K.keeps e.keeper history) busy.state.sum) (sym c.self.view_is) c.requires.kept in
    let counted = subst (λ (e : EngineState g.row.K.Denot). e.number ≡ busy.state.sum.number) (sym c.self.view_is) c.requires.counted in
    runs_so K.ready K.works K.keeps c.settle.new.keeper busy.state c.replace-in-Err-Refused.new.self _ _
    (c.replace-in-Err-Refused.ensures.after ∙ ap Some undone.0)
    (c.settle.ensures.ready ready)
    (record {
      history = was.history;
      leads = was.leads;
      held = λ works. subst (λ (u : Unsettled). KeepsUnsettled (K.keeps c.settle.new.keeper) was.history busy u) c.in-Err-Refused.field-0-is (c.in-Err-Refused.ensures.refused was.history was.leads ready works (was.held (c.settle.ensures.worked ready works)));
    })
    c.requires.summed c.requires.nulls counted

pub invariant_of-self-in-Err-Reopen : goal.invariant_of-self-in-Err-Reopen
invariant_of-self-in-Err-Reopen g c = grind (arith, common_steps)

pub invariant_of-self : goal.invariant_of-self
invariant_of-self g c =
    let K = g.K.Keeper in
    let busy = c.args.busy in
    let ready = c.self.invariant.is_ready in
    let was = subst (λ (e : EngineState g.row.K.Denot). SomeHistory (λ history. K.works e.keeper → K.keeps e.keeper history) busy.state.sum) (sym c.self.view_is) c.requires.kept in
    runs_so K.ready K.works K.keeps c.settle.new.keeper _ c.replace.new.self _ _ c.replace.ensures.after
    (c.settle.ensures.ready ready)
    (record {
      history = history_with was.history busy;
      leads = c.in-Ok.ensures.leads was.history was.leads;
      held = λ works. c.in-Ok.ensures.kept was.history was.leads ready works (was.held (c.settle.ensures.worked ready works));
    })
    c.number-self-inside.ensures.sum (c.in-Ok.ensures.nulls c.requires.nulls) c.number-self-inside.ensures.number

pub returns-in-Ok-clause-done : goal.returns-in-Ok-clause-done
returns-in-Ok-clause-done g c = (c.replace.ensures.after ∙ ap Some c.in-Ok.ensures.server, c.in-Ok.ensures.answers)

pub returns-in-Ok-clause-leads : goal.returns-in-Ok-clause-leads
returns-in-Ok-clause-leads g c = rw c.replace.ensures.after c.in-Ok.ensures.leads

pub returns-in-Ok-clause-kept : goal.returns-in-Ok-clause-kept
returns-in-Ok-clause-kept g c = rw (← c.self.view_is) (λ history makes works keeps. c.in-Ok.ensures.kept history makes c.self.invariant.is_ready works keeps)

pub returns-in-Ok-clause-durable : goal.returns-in-Ok-clause-durable
returns-in-Ok-clause-durable g c = rw (← c.self.view_is) (λ history makes keeps. c.in-Ok.ensures.durable history makes c.self.invariant.is_ready keeps)
