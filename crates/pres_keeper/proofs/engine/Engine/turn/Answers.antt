use Rattle.std.proofs.Common.{◌≡◌, ◌∙◌, Some, ap, sym, subst, arith}
use Rattle.std.proofs.lemmas.Grind.{common_steps}
use Rattle.pres_server.specs.SumStates.{SumState}
use Rattle.pres_server.specs.SumTurns.{IsTurn, moment_by, after_hearing}
use Rattle.pres_server.specs.Histories.{IsSum}
use Rattle.pres_keeper.specs.Keepers.{SomeHistory, KeepsOneNull}
use Rattle.pres_keeper.specs.Engines.{Runs}
use Rattle.pres_keeper.proofs.Invariants.{runs_so}
use Rattle.pres_keeper.proofs.engine.Engine.turn.Goals as goal

pub invariant_of-self-in-Err-Busy-default : goal.invariant_of-self-in-Err-Busy-default
invariant_of-self-in-Err-Busy-default g c = grind (arith, common_steps)

pub carry_out-requires-clause-summed : goal.carry_out-requires-clause-summed
carry_out-requires-clause-summed g c = grind (arith, common_steps)

pub invariant_of-self-in-Err : goal.invariant_of-self-in-Err
invariant_of-self-in-Err g c = grind (arith, common_steps)

pub invariant_of-self : goal.invariant_of-self
invariant_of-self g c = grind (arith, common_steps)

pub carry_out-requires-clause-counted : goal.carry_out-requires-clause-counted
carry_out-requires-clause-counted g c = grind (arith, common_steps)

pub returns-in-Err : goal.returns-in-Err
returns-in-Err g c = grind (arith, common_steps)

pub invariant_of-self-in-Ok-Busy : goal.invariant_of-self-in-Ok-Busy
invariant_of-self-in-Ok-Busy g c = grind (arith, common_steps)

pub carry_out-requires-clause-kept : goal.carry_out-requires-clause-kept
carry_out-requires-clause-kept g c = grind (arith, common_steps)

pub invariant_of-self-in-Ok-Quiet : goal.invariant_of-self-in-Ok-Quiet
invariant_of-self-in-Ok-Quiet g c =
    let K = g.K.Keeper in
    let invariant = c.self.invariant in
    let was : Some c.in-Some.server ≡ c.self.inside.server = c.in-Some.ensures.value in
    let turn = subst (IsTurn c.in-Some.server c.args.input c.args.now) c.in-Ok-Quiet.field-0-is c.in-Ok-Quiet.ensures.turn in
    runs_so K.ready K.works K.keeps c.self.inside.keeper (after_hearing c.in-Some.server (moment_by c.in-Some.server.sum c.args.now) c.args.input) c.replace.new.self _ _
    (c.replace.ensures.after ∙ ap Some turn.1) invariant.is_ready
    (subst (Runs (λ s. SomeHistory (λ history. K.works c.self.inside.keeper → K.keeps c.self.inside.keeper history) s.sum)) (sym was) invariant.kept)
    (subst (Runs (λ s. IsSum s.sum)) (sym was) invariant.summed)
    (subst (Runs (λ s. KeepsOneNull s.sum)) (sym was) invariant.nulls)
    (subst (Runs (λ s. c.self.inside.number ≡ s.sum.number)) (sym was) invariant.counted)

pub carry_out-requires-clause-nulls : goal.carry_out-requires-clause-nulls
carry_out-requires-clause-nulls g c =
    let was : Some c.in-Some.server ≡ c.self.inside.server = c.in-Some.ensures.value in
    let nulls : KeepsOneNull c.in-Some.server.sum = subst (Runs (λ s. KeepsOneNull s.sum)) (sym was) c.self.invariant.nulls in
    let turn = subst (IsTurn c.in-Some.server c.args.input c.args.now) c.in-Ok-Busy.field-0-is c.in-Ok-Busy.ensures.turn in
    subst (λ (s : SumState). KeepsOneNull s.sum) (sym turn.1) nulls
