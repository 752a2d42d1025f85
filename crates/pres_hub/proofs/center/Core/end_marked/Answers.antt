use Rattle.std.proofs.Common.{◌≡◌, ◌∙◌, refl, sym, subst, true, [], Some, is_some, IfOk, IfSome, arith}
use Rattle.pres_ids.specs.declared.id.SessionId.{SessionId}
use Rattle.pres_ids.specs.declared.id.Why.{Why}
use Rattle.pres_server.specs.Sums.{is_open_in}
use Rattle.pres_server.specs.Histories.{IsSum}
use Rattle.pres_keeper.specs.Engines.{Runs}
use Rattle.pres_ring.specs.Lines.{first_marked, IsFirstMarked}
use Rattle.pres_dispatch.proofs.Marks.{stay_same, stay_twice}
use Rattle.pres_faults.specs.declared.hub_fault.HubFault.TheVariants.{Memory}
use Rattle.pres_dispatch.proofs.Ended.{passed_on}
use Rattle.pres_hub.specs.Cores.{end_by}
use Rattle.pres_hub.specs.CoreCalls.{IsCarriedOut, IsEventRefused, StopsAtMark}
use Rattle.pres_hub.proofs.Fewer.{marked_fewer}
use Rattle.pres_hub.proofs.Ends.{marked_more, stops_uncopied, refused_end}
use Rattle.pres_hub.specs.CoreTurns.{CarriesOn, StopsAtMarkOn}
use Rattle.pres_hub.proofs.CoreHistories.{goes_none, goes_twice}
use Rattle.pres_hub.proofs.Ticking.{marked_first, marked_next, marked_last, marked_stops, marked_uncopied}
use Rattle.pres_hub.proofs.center.Core.end_marked.Goals as goal

pub loop-next-smaller : goal.loop-next-smaller
loop-next-smaller g c =
    let old = c.self.inside.dispatcher in
    let carried = subst (λ i. IsCarriedOut i c.args.now c.loop-next.self.run.server c.event.new.self.run.server c.loop-next.self.lines c.event.new.self.lines) c.end_by.ensures.input c.in_ok-event.ensures.done in
    let found : first_marked old.lines ≡ Some (c.in_ok-session.session, c.in_ok-session.why) = subst (λ r. IfOk r (λ e. first_marked old.lines ≡ Some e)) c.in_ok-session.was c.in-Some.ensures.session in
    let is : Runs (λ s. is_open_in c.in_ok-session.session s.sum ≡ true) old.run.server = subst (λ o. IfSome o (λ e. Runs (λ s. is_open_in e.0 s.sum ≡ true) old.run.server)) found c.in-Some.ensures.open in
    marked_fewer c.in_ok-session.why c.in_ok-session.session c.args.now c.loop-next.self.run.server c.event.new.self.run.server c.loop-next.self.lines c.event.new.self.lines carried
    (subst (λ x. Runs (λ s. IsSum s.sum) x.run.server) c.self.view_is c.number.ensures.summed)
    (subst (λ x. Runs (λ s. is_open_in c.in_ok-session.session s.sum ≡ true) x.run.server) c.self.view_is is)

pub loop-next-preserved : goal.loop-next-preserved
loop-next-preserved g c =
    let before = c.loop-next.invariant in
    let old = c.self.inside.dispatcher in
    let found : first_marked old.lines ≡ Some (c.in_ok-session.session, c.in_ok-session.why) = subst (λ r. IfOk r (λ e. first_marked old.lines ≡ Some e)) c.in_ok-session.was c.in-Some.ensures.session in
    let first : IsFirstMarked (c.in_ok-session.session, c.in_ok-session.why) old.lines = subst (λ o. IfSome o (λ e. IsFirstMarked e old.lines)) found c.in-Some.ensures.first in
    let event = c.in_ok-event.ensures in
    let carried = subst (λ i. IsCarriedOut i c.args.now c.loop-next.self.run.server c.event.new.self.run.server c.loop-next.self.lines c.event.new.self.lines) c.end_by.ensures.input event.done in
    let since = before.2 in
    let rises = event.rises in (
      event.counts ∙ before.0,
      event.start ∙ before.1,
      omega (arith, since, rises),
      stay_twice c.args.self.now.lines c.loop-next.self.lines c.event.new.self.lines before.3 event.marks,
      λ after behind h. before.4 after behind
          (marked_more c.args.now (c.in_ok-session.session, c.in_ok-session.why) c.loop-next.self.run.server c.event.new.self.run.server after c.loop-next.self.lines c.event.new.self.lines behind
          (subst (λ x. IsFirstMarked (c.in_ok-session.session, c.in_ok-session.why) x.lines) c.self.view_is first) carried h),
      goes_twice g.K.Keeper.works g.K.Keeper.keeps c.args.self.now c.loop-next.self c.event.new.self before.5 event.goes_on,
      marked_next g.K.Keeper.works g.K.Keeper.keeps c.args.now c.args.self.now c.loop-next.self c.event.new.self (c.in_ok-session.session, c.in_ok-session.why) before.6
          (subst (λ x. IsFirstMarked (c.in_ok-session.session, c.in_ok-session.why) x.lines) c.self.view_is first)
          (subst (λ i. CarriesOn g.K.Keeper.works g.K.Keeper.keeps i c.args.now c.loop-next.self c.event.new.self) c.end_by.ensures.input event.carries),
      event.base ∙ before.7,
    )

pub returns-in_err-session-clause-stopped : goal.returns-in_err-session-clause-stopped
returns-in_err-session-clause-stopped g c =
    let now = c.loop-next.self in
    let first = subst (λ x. IfSome (first_marked x.lines) (λ e. IsFirstMarked e x.lines)) c.self.view_is c.in-Some.ensures.first in
    let is : is_some (first_marked now.lines) ≡ true = sym (subst (λ x. true ≡ is_some (first_marked x.lines)) c.self.view_is c.in-Some.ensures.found) in
    passed_on c.from_residual.result Memory (StopsAtMark c.args.now c.args.self.now.run.server now.run.server c.args.self.now.lines now.lines) c.from_residual.ensures.1
    (stops_uncopied (first_marked now.lines) c.args.now c.args.self.now.run.server now.run.server c.args.self.now.lines now.lines is first (c.loop-next.invariant.4 now.run.server now.lines ([], (refl, refl))))

pub returns-in_err-event-clause-stopped : goal.returns-in_err-event-clause-stopped
returns-in_err-event-clause-stopped g c =
    let old = c.self.inside.dispatcher in
    let now = c.loop-next.self in
    let new = c.event.new.self in
    let found : first_marked old.lines ≡ Some (c.in_ok-session.session, c.in_ok-session.why) = subst (λ r. IfOk r (λ e. first_marked old.lines ≡ Some e)) c.in_ok-session.was c.in-Some.ensures.session in
    let first : IsFirstMarked (c.in_ok-session.session, c.in_ok-session.why) old.lines = subst (λ o. IfSome o (λ e. IsFirstMarked e old.lines)) found c.in-Some.ensures.first in
    let stopped : StopsAtMark c.args.now c.args.self.now.run.server new.run.server c.args.self.now.lines now.lines c.in_err-event.field-0.0 = record {
      middle = now.run.server;
      ended = c.loop-next.invariant.4 now.run.server now.lines ([], (refl, refl));
      next = (c.in_ok-session.session, c.in_ok-session.why);
      first = subst (λ x. IsFirstMarked (c.in_ok-session.session, c.in_ok-session.why) x.lines) c.self.view_is first;
      refused = refused_end (end_by c.in_ok-session.why c.in_ok-session.session) c.args.now now.run.server new.run.server c.in_err-event.field-0.0
          (subst (λ i. IsEventRefused i c.args.now now.run.server new.run.server c.in_err-event.field-0.0) c.end_by.ensures.input c.in_err-event.ensures.refused);
    } in
    passed_on c.from_residual-in_err-event.result c.in_err-event.field-0.0 (StopsAtMark c.args.now c.args.self.now.run.server new.run.server c.args.self.now.lines new.lines) c.from_residual-in_err-event.ensures.1
    (subst (λ lines. StopsAtMark c.args.now c.args.self.now.run.server new.run.server c.args.self.now.lines lines c.in_err-event.field-0.0) (sym c.in_err-event.ensures.lines) stopped)

pub loop-next-init : goal.loop-next-init
loop-next-init g c = (refl, refl, omega arith, stay_same c.args.self.now.lines, λ after behind h. h, goes_none g.K.Keeper.works g.K.Keeper.keeps c.args.self.now, marked_first g.K.Keeper.works g.K.Keeper.keeps c.args.now c.args.self.now, refl)

pub returns-in_err-event-clause-goes_on : goal.returns-in_err-event-clause-goes_on
returns-in_err-event-clause-goes_on g c = goes_twice g.K.Keeper.works g.K.Keeper.keeps c.args.self.now c.loop-next.self c.event.new.self c.loop-next.invariant.5 c.in_err-event.ensures.goes_on

pub returns-clause-carries : goal.returns-clause-carries
returns-clause-carries g c = marked_last g.K.Keeper.works g.K.Keeper.keeps c.args.now c.args.self.now c.loop-next.self c.loop-next.invariant.6

pub returns-in_err-session-clause-stops : goal.returns-in_err-session-clause-stops
returns-in_err-session-clause-stops g c =
    let now = c.loop-next.self in
    let first = subst (λ x. IfSome (first_marked x.lines) (λ e. IsFirstMarked e x.lines)) c.self.view_is c.in-Some.ensures.first in
    let is : is_some (first_marked now.lines) ≡ true = sym (subst (λ x. true ≡ is_some (first_marked x.lines)) c.self.view_is c.in-Some.ensures.found) in
    passed_on c.from_residual.result Memory (StopsAtMarkOn g.K.Keeper.works g.K.Keeper.keeps c.args.now c.args.self.now now) c.from_residual.ensures.1
    (marked_uncopied g.K.Keeper.works g.K.Keeper.keeps c.args.now c.args.self.now now (first_marked now.lines) c.loop-next.invariant.6 is first)

pub returns-in_err-event-clause-stops : goal.returns-in_err-event-clause-stops
returns-in_err-event-clause-stops g c =
    let old = c.self.inside.dispatcher in
    let now = c.loop-next.self in
    let new = c.event.new.self in
    let next : SessionId × Why = (c.in_ok-session.session, c.in_ok-session.why) in
    let found : first_marked old.lines ≡ Some next = subst (λ r. IfOk r (λ e. first_marked old.lines ≡ Some e)) c.in_ok-session.was c.in-Some.ensures.session in
    let first : IsFirstMarked next old.lines = subst (λ o. IfSome o (λ e. IsFirstMarked e old.lines)) found c.in-Some.ensures.first in
    passed_on c.from_residual-in_err-event.result c.in_err-event.field-0.0 (StopsAtMarkOn g.K.Keeper.works g.K.Keeper.keeps c.args.now c.args.self.now new) c.from_residual-in_err-event.ensures.1
    (marked_stops g.K.Keeper.works g.K.Keeper.keeps c.args.now c.args.self.now now new next c.in_err-event.field-0.0 c.loop-next.invariant.6
    (subst (λ x. IsFirstMarked next x.lines) c.self.view_is first)
    (refused_end (end_by c.in_ok-session.why c.in_ok-session.session) c.args.now now.run.server new.run.server c.in_err-event.field-0.0
    (subst (λ i. IsEventRefused i c.args.now now.run.server new.run.server c.in_err-event.field-0.0) c.end_by.ensures.input c.in_err-event.ensures.refused))
    c.in_err-event.ensures.lines c.in_err-event.ensures.still)
