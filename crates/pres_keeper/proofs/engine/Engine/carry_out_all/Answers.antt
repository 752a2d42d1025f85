use Rattle.std.proofs.Common.{◌∙◌, ◌++◌, List, length, Some, ap, sym, subst, arith}
use Rattle.pres_wire.specs.declared.down.Down.{Down}
use Rattle.pres_log.specs.Logs.{Log}
use Rattle.pres_server.specs.Sums.{Sum}
use Rattle.pres_server.specs.SumStates.{SumState}
use Rattle.pres_server.proofs.Grouped.{state_sum}
use Rattle.pres_faults.specs.declared.engine_fault.EngineFault.TheVariants as why
use Rattle.pres_keeper.specs.declared.settlement.Unsettled.{Unsettled}
use Rattle.pres_server.specs.Histories.{with_batches}
use Rattle.pres_keeper.specs.Settlements.{IsUnsettled, KeepsUnsettledAll, LastsUnsettled}
use Rattle.pres_keeper.specs.Engines.{IsHistoryOf}
use Rattle.pres_keeper.specs.EngineGroups.{answered, refusals}
use Rattle.pres_keeper.proofs.Nulls.{number_from}
use Rattle.pres_keeper.proofs.Turned.{done_group, refused_group, gone_group, each_counted}
use Rattle.pres_keeper.proofs.engine.Engine.carry_out_all.Goals as goal

pub answer_all-requires : goal.answer_all-requires
answer_all-requires g c =
    let many = ap (λ (l : List (List Down)). length l) c.in-Ok.ensures.answers ∙ each_counted c.args.group.batches c.args.group.state.sum in
    omega (arith, many, c.requires.room)

pub returns-in-Ok-clause-told : goal.returns-in-Ok-clause-told
returns-in-Ok-clause-told g c =
    let many = ap (λ (l : List (List Down)). length l) c.in-Ok.ensures.answers ∙ each_counted c.args.group.batches c.args.group.state.sum in
    omega (arith, many, c.answer_all.ensures.told)

pub returns-in-Ok-clause-rises : goal.returns-in-Ok-clause-rises
returns-in-Ok-clause-rises g c =
    let there = ap (λ (s : SumState). s.sum.number) c.in-Ok.ensures.server in
    let sum = ap (λ (x : Sum). x.number) (state_sum c.args.group.batches c.args.group.state) in
    omega (arith, c.number-self-inside.ensures.number, there, sum, number_from c.args.group.batches c.args.group.state.sum, c.requires.counted)

pub returns-in-Ok-clause-turned : goal.returns-in-Ok-clause-turned
returns-in-Ok-clause-turned g c = rw (← c.self.view_is) (λ history inputs now makes made.
    let K = g.K.Keeper in
    let state = c.args.group.state in
    let batches = c.args.group.batches in
    let told = c.args.results.now.items in
    let ready = c.self.invariant.is_ready in
    done_group K.works K.keeps K.outlasts c.self.inside.keeper c.settle_all.new.keeper state c.replace.new.self history batches inputs told c.answer_all.new.results.items now made
    (c.replace.ensures.after ∙ ap Some c.in-Ok.ensures.server)
    (c.answer_all.ensures.items ∙ ap (λ l. told ++ answered l) c.in-Ok.ensures.answers)
    (subst (IsHistoryOf (with_batches history batches)) (sym c.replace.ensures.after) (c.in-Ok.ensures.leads history makes))
    (λ w k. c.in-Ok.ensures.kept history makes ready w k)
    (λ k. c.in-Ok.ensures.durable history makes ready k))

pub returns-in-Err-Refused-clause-turned : goal.returns-in-Err-Refused-clause-turned
returns-in-Err-Refused-clause-turned g c = rw (← c.self.view_is) (λ history inputs now makes made.
    let K = g.K.Keeper in
    let state = c.args.group.state in
    let batches = c.args.group.batches in
    let told = c.args.results.now.items in
    let ready = c.self.invariant.is_ready in
    let fault = c.in-Err-Refused.fault in
    let undone = subst (IsUnsettled state) c.in-Err-Refused.field-0-is c.in-Err-Refused.ensures.undone in
    refused_group K.works K.keeps K.outlasts c.self.inside.keeper c.settle_all.new.keeper state c.replace-in-Err-Refused.new.self history batches inputs told c.refuse_all.new.results.items now fault made
    undone.1
    (c.replace-in-Err-Refused.ensures.after ∙ ap Some undone.0)
    (c.refuse_all.ensures.items ∙ ap (λ (bs : Log). told ++ refusals (length bs) (why.Keeper fault)) c.batches-count.ensures.batches)
    makes
    (λ w k. subst (λ (u : Unsettled). KeepsUnsettledAll (K.keeps c.settle_all.new.keeper) history batches u) c.in-Err-Refused.field-0-is (c.in-Err-Refused.ensures.refused history makes ready w k))
    (c.settle_all.ensures.outlasts history ready))

pub returns-in-Err-Reopen-clause-turned : goal.returns-in-Err-Reopen-clause-turned
returns-in-Err-Reopen-clause-turned g c = rw (← c.self.view_is) (λ history inputs now makes made.
    let K = g.K.Keeper in
    let state = c.args.group.state in
    let batches = c.args.group.batches in
    let told = c.args.results.now.items in
    let ready = c.self.invariant.is_ready in
    gone_group K.works K.keeps K.outlasts c.self.inside.keeper c.settle_all.new.keeper state c.take-gone.new.self history batches inputs told c.down_all.new.results.items now made
    c.take-gone.ensures.after
    (c.down_all.ensures.items ∙ ap (λ (bs : Log). told ++ refusals (length bs) why.Down) c.batches-count.ensures.batches)
    (λ w k. subst (λ (u : Unsettled). KeepsUnsettledAll (K.keeps c.settle_all.new.keeper) history batches u) c.in-Err-Reopen.field-0-is (c.in-Err-Reopen.ensures.refused history makes ready w k))
    (λ k. subst (LastsUnsettled (K.outlasts c.settle_all.new.keeper) (with_batches history batches)) c.in-Err-Reopen.field-0-is (c.in-Err-Reopen.ensures.lasts history makes ready k)))
