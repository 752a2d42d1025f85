use Rattle.std.proofs.Common.{◌≡◌, ◌∙◌, ap, subst, sym, refl, arith}
use Rattle.pres_server.specs.declared.input.Input.TheVariants as input
use Rattle.pres_keeper.specs.Engines.{Runs}
use Rattle.pres_server.specs.Histories.{IsSum}
use Rattle.pres_dispatch.proofs.Marks.{stay_same, stay_twice}
use Rattle.pres_hub.proofs.Fewer.{late_fewer, rose}
use Rattle.pres_hub.proofs.Ends.{late_more, none_late}
use Rattle.pres_hub.proofs.CoreHistories.{goes_none, goes_twice}
use Rattle.pres_hub.proofs.Ticking.{late_first, late_next, late_last, late_stops}
use Rattle.pres_dispatch.proofs.Ended.{passed_on}
use Rattle.pres_hub.specs.CoreTurns.{StopsLateOn}
use Rattle.pres_hub.proofs.center.Core.end_late.Goals as goal

pub returns-then-after-before-clause-ended : goal.returns-then-after-before-clause-ended
returns-then-after-before-clause-ended g c =
    let old = c.loop-self.self in
    let new = c.event.new.self in
    c.loop-self.invariant.4 new.run.server new.lines (late_more c.args.now old.run.server new.run.server new.run.server old.lines new.lines new.lines c.in_ok-event.ensures.done (0, (refl, refl)))

pub returns-then-after-before-clause-none_late : goal.returns-then-after-before-clause-none_late
returns-then-after-before-clause-none_late g c =
    let old = c.loop-self.self in
    let new = c.event.new.self in
    let before = c.number-before.ensures.number ∙ ap (λ x. x.run.number) c.self.view_is in
    let after = c.number-after.ensures.number ∙ ap (λ x. x.run.number) c.self-in-loop-self.view_is in
    none_late c.args.now old.run.number new.run.number old.run.server new.run.server old.lines new.lines c.in_ok-event.ensures.done
    (subst (λ x. Runs (λ s. IsSum s.sum) x.run.server) c.self.view_is c.number-before.ensures.summed)
    (subst (λ x. Runs (λ s. x.run.number ≡ s.sum.number) x.run.server) c.self.view_is c.number-before.ensures.counted)
    (subst (λ x. Runs (λ s. x.run.number ≡ s.sum.number) x.run.server) c.self-in-loop-self.view_is c.number-after.ensures.counted)
    (sym after ∙ c.if-after-before.true ∙ before)

pub loop-self-smaller : goal.loop-self-smaller
loop-self-smaller g c =
    let old = c.loop-self.self in
    let new = c.event.new.self in
    let before = c.number-before.ensures.number ∙ ap (λ x. x.run.number) c.self.view_is in
    let after = c.number-after.ensures.number ∙ ap (λ x. x.run.number) c.self-in-loop-self.view_is in
    late_fewer input.Tick c.args.now old.run.number new.run.number old.run.server new.run.server old.lines new.lines c.in_ok-event.ensures.done
    (subst (λ x. Runs (λ s. IsSum s.sum) x.run.server) c.self.view_is c.number-before.ensures.summed)
    (subst (λ x. Runs (λ s. x.run.number ≡ s.sum.number) x.run.server) c.self.view_is c.number-before.ensures.counted)
    (subst (λ x. Runs (λ s. x.run.number ≡ s.sum.number) x.run.server) c.self-in-loop-self.view_is c.number-after.ensures.counted)
    (rose old.run.number new.run.number c.in_ok-event.ensures.rises (λ h. c.if-after-before.false (after ∙ h ∙ sym before)))

pub loop-self-preserved : goal.loop-self-preserved
loop-self-preserved g c =
    let before = c.loop-self.invariant in
    let event = c.in_ok-event.ensures in
    let since = before.2 in
    let rises = event.rises in (
      event.counts ∙ before.0,
      event.start ∙ before.1,
      omega (arith, since, rises),
      stay_twice c.args.self.now.lines c.loop-self.self.lines c.event.new.self.lines before.3 event.marks,
      λ after behind h. before.4 after behind (late_more c.args.now c.loop-self.self.run.server c.event.new.self.run.server after c.loop-self.self.lines c.event.new.self.lines behind event.done h),
      goes_twice g.K.Keeper.works g.K.Keeper.keeps c.args.self.now c.loop-self.self c.event.new.self before.5 event.goes_on,
      late_next g.K.Keeper.works g.K.Keeper.keeps c.args.now c.args.self.now c.loop-self.self c.event.new.self before.6 event.carries,
      event.base ∙ before.7,
    )

pub loop-self-init : goal.loop-self-init
loop-self-init g c = (refl, refl, omega arith, stay_same c.args.self.now.lines, λ after behind h. h, goes_none g.K.Keeper.works g.K.Keeper.keeps c.args.self.now, late_first g.K.Keeper.works g.K.Keeper.keeps c.args.now c.args.self.now, refl)

pub returns-then-after-before-clause-goes_on : goal.returns-then-after-before-clause-goes_on
returns-then-after-before-clause-goes_on g c = goes_twice g.K.Keeper.works g.K.Keeper.keeps c.args.self.now c.loop-self.self c.event.new.self c.loop-self.invariant.5 c.in_ok-event.ensures.goes_on

pub returns-then-after-before-clause-carries : goal.returns-then-after-before-clause-carries
returns-then-after-before-clause-carries g c =
    late_last g.K.Keeper.works g.K.Keeper.keeps c.args.now c.args.self.now c.event.new.self
    (late_next g.K.Keeper.works g.K.Keeper.keeps c.args.now c.args.self.now c.loop-self.self c.event.new.self c.loop-self.invariant.6 c.in_ok-event.ensures.carries)

pub returns-in_err-event-clause-stops : goal.returns-in_err-event-clause-stops
returns-in_err-event-clause-stops g c =
    let now = c.loop-self.self in
    let new = c.event.new.self in
    passed_on c.from_residual.result c.in_err-event.field-0.0 (StopsLateOn g.K.Keeper.works g.K.Keeper.keeps c.args.now c.args.self.now new) c.from_residual.ensures.1
    (late_stops g.K.Keeper.works g.K.Keeper.keeps c.args.now c.args.self.now now new c.in_err-event.field-0.0 c.loop-self.invariant.6 c.in_err-event.ensures.refused c.in_err-event.ensures.lines c.in_err-event.ensures.still)
