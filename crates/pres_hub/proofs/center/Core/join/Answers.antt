use Rattle.std.proofs.Common.{◌≡◌, ◌<◌, ◌^◌, subst, sym, ap, refl, false, IfSome}
use Rattle.pres_server.specs.declared.input.Input.TheVariants as input
use Rattle.pres_wire.specs.declared.up.Up.TheVariants as up
use Rattle.pres_keeper.specs.Engines.{Runs}
use Rattle.pres_keeper.specs.EngineTurns.{history_turned}
use Rattle.std.specs.Prelude.{OnErr}
use Rattle.pres_hub.specs.CoreTurns.{JoinsOn, StandsStill}
use Rattle.pres_hub.specs.Cores.{GoesOn}
use Rattle.pres_hub.proofs.Counted.{Accepted, joined_accepted}
use Rattle.pres_ring.specs.Lines.{is_slow}
use Rattle.pres_hub.proofs.CoreHistories.{some_goes_on, goes_same, goes_carried, carries_on, stands_still, on_err, few_runs}
use Rattle.pres_hub.proofs.Ends.{unanswered_left}
use Rattle.pres_hub.proofs.center.Core.join.Goals as goal

pub seat-seat-requires : goal.seat-seat-requires
seat-seat-requires g c = record {
  few =
      subst (Runs (λ s. c.self.inside.tally.accepted < 2 ^ 53)) c.in_ok-outbox.ensures.joined.ran
      (few_runs g.K.Keeper.works g.K.Keeper.keeps (record { run = c.self.inside.dispatcher.run; lines = c.self.inside.dispatcher.lines; counts = c.self.inside.tally; start = c.self.inside.start }) c.self.invariant.stands);
}

pub invariant_of-self-2 : goal.invariant_of-self-2
invariant_of-self-2 g c =
    let joined = c.in_ok-outbox.ensures.joined in
    let i = input.Up (up.Hello c.args.session.now) in
    record {
      stands =
          some_goes_on g.K.Keeper.works g.K.Keeper.keeps
          (record { run = c.self.inside.dispatcher.run; lines = c.self.inside.dispatcher.lines; counts = c.self.inside.tally; start = c.self.inside.start })
          (record { run = c.end_slow.new.self.run; lines = c.end_slow.new.self.lines; counts = c.seat-seat.new.self; start = c.self.inside.start })
          (goes_carried g.K.Keeper.works g.K.Keeper.keeps
          (record { run = c.self.inside.dispatcher.run; lines = c.self.inside.dispatcher.lines; counts = c.self.inside.tally; start = c.self.inside.start })
          (record { run = c.end_slow.new.self.run; lines = c.end_slow.new.self.lines; counts = c.seat-seat.new.self; start = c.self.inside.start })
          c.join.new.self i c.args.now refl c.in_ok-outbox.ensures.stands
          (λ l h.
          subst (λ n. Runs (Accepted c.self.inside.start n (history_turned l c.self.inside.dispatcher.run.server i c.args.now)) c.join.new.self.run.server) (sym (ap (λ x. x.accepted) c.seat-seat.ensures.tally))
          (joined_accepted c.self.inside.start c.self.inside.tally.accepted l c.args.session.now c.args.now c.self.inside.dispatcher.run.server c.join.new.self.run.server c.self.inside.dispatcher.lines c.join.new.self.lines c.in_ok-outbox.outbox joined h))
          c.end_slow.ensures.stands)
          c.self.invariant.stands;
      none_slow = c.end_slow.ensures.none_slow;
    }

pub returns-clause-goes_on : goal.returns-clause-goes_on
returns-clause-goes_on g c =
    let joined = c.in_ok-outbox.ensures.joined in
    let i = input.Up (up.Hello c.args.session.now) in
    subst (λ x. GoesOn g.K.Keeper.works g.K.Keeper.keeps x (record { run = c.end_slow.new.self.run; lines = c.end_slow.new.self.lines; counts = c.seat-seat.new.self; start = c.self.inside.start })) c.self.view_is
    (goes_carried g.K.Keeper.works g.K.Keeper.keeps
    (record { run = c.self.inside.dispatcher.run; lines = c.self.inside.dispatcher.lines; counts = c.self.inside.tally; start = c.self.inside.start })
    (record { run = c.end_slow.new.self.run; lines = c.end_slow.new.self.lines; counts = c.seat-seat.new.self; start = c.self.inside.start })
    c.join.new.self i c.args.now refl c.in_ok-outbox.ensures.stands
    (λ l h.
    subst (λ n. Runs (Accepted c.self.inside.start n (history_turned l c.self.inside.dispatcher.run.server i c.args.now)) c.join.new.self.run.server) (sym (ap (λ x. x.accepted) c.seat-seat.ensures.tally))
    (joined_accepted c.self.inside.start c.self.inside.tally.accepted l c.args.session.now c.args.now c.self.inside.dispatcher.run.server c.join.new.self.run.server c.self.inside.dispatcher.lines c.join.new.self.lines c.in_ok-outbox.outbox joined h))
    c.end_slow.ensures.stands)

pub invariant_of-self : goal.invariant_of-self
invariant_of-self g c = record {
  stands =
      some_goes_on g.K.Keeper.works g.K.Keeper.keeps
      (record { run = c.self.inside.dispatcher.run; lines = c.self.inside.dispatcher.lines; counts = c.self.inside.tally; start = c.self.inside.start })
      (record { run = c.join.new.self.run; lines = c.join.new.self.lines; counts = c.self.inside.tally; start = c.self.inside.start })
      (goes_same g.K.Keeper.works g.K.Keeper.keeps
      (record { run = c.self.inside.dispatcher.run; lines = c.self.inside.dispatcher.lines; counts = c.self.inside.tally; start = c.self.inside.start })
      (record { run = c.join.new.self.run; lines = c.join.new.self.lines; counts = c.self.inside.tally; start = c.self.inside.start })
      c.in_err-outbox.ensures.stands (unanswered_left (input.Up (up.Hello c.args.session.now)) c.args.now c.self.inside.dispatcher.run.server c.join.new.self.run.server c.in_err-outbox.field-0.0 c.in_err-outbox.ensures.refused) refl refl)
      c.self.invariant.stands;
  none_slow = λ s. subst (λ line. IfSome line (λ l. is_slow l ≡ false)) (sym (c.in_err-outbox.ensures.lines s)) (c.self.invariant.none_slow s);
}

pub returns-in_err-outbox-clause-goes_on : goal.returns-in_err-outbox-clause-goes_on
returns-in_err-outbox-clause-goes_on g c =
    subst (λ x. GoesOn g.K.Keeper.works g.K.Keeper.keeps x (record { run = c.join.new.self.run; lines = c.join.new.self.lines; counts = c.self.inside.tally; start = c.self.inside.start })) c.self.view_is
    (goes_same g.K.Keeper.works g.K.Keeper.keeps
    (record { run = c.self.inside.dispatcher.run; lines = c.self.inside.dispatcher.lines; counts = c.self.inside.tally; start = c.self.inside.start })
    (record { run = c.join.new.self.run; lines = c.join.new.self.lines; counts = c.self.inside.tally; start = c.self.inside.start })
    c.in_err-outbox.ensures.stands (unanswered_left (input.Up (up.Hello c.args.session.now)) c.args.now c.self.inside.dispatcher.run.server c.join.new.self.run.server c.in_err-outbox.field-0.0 c.in_err-outbox.ensures.refused) refl refl)

pub returns-clause-carries : goal.returns-clause-carries
returns-clause-carries g c =
    let joined = c.in_ok-outbox.ensures.joined in
    let i = input.Up (up.Hello c.args.session.now) in
    subst (λ x. JoinsOn g.K.Keeper.works g.K.Keeper.keeps c.args.session.now c.args.now c.in_ok-outbox.outbox x (record { run = c.end_slow.new.self.run; lines = c.end_slow.new.self.lines; counts = c.seat-seat.new.self; start = c.self.inside.start })) c.self.view_is
    (λ before stands.
    let k =
    carries_on g.K.Keeper.works g.K.Keeper.keeps
    (record { run = c.self.inside.dispatcher.run; lines = c.self.inside.dispatcher.lines; counts = c.self.inside.tally; start = c.self.inside.start })
    (record { run = c.end_slow.new.self.run; lines = c.end_slow.new.self.lines; counts = c.seat-seat.new.self; start = c.self.inside.start })
    c.join.new.self i c.args.now refl c.in_ok-outbox.ensures.stands
    (λ l h.
    subst (λ n. Runs (Accepted c.self.inside.start n (history_turned l c.self.inside.dispatcher.run.server i c.args.now)) c.join.new.self.run.server) (sym (ap (λ x. x.accepted) c.seat-seat.ensures.tally))
    (joined_accepted c.self.inside.start c.self.inside.tally.accepted l c.args.session.now c.args.now c.self.inside.dispatcher.run.server c.join.new.self.run.server c.self.inside.dispatcher.lines c.join.new.self.lines c.in_ok-outbox.outbox joined h))
    c.end_slow.ensures.stands before stands in
    (record { middle = c.join.new.self.run.server; lines = c.join.new.self.lines; joined = joined; ended = k.0 }, k.1))

pub returns-in_err-outbox-clause-still : goal.returns-in_err-outbox-clause-still
returns-in_err-outbox-clause-still g c =
    subst (λ x. OnErr c.from_residual-in_err-outbox.result (StandsStill g.K.Keeper.works g.K.Keeper.keeps x (record { run = c.join.new.self.run; lines = c.join.new.self.lines; counts = c.self.inside.tally; start = c.self.inside.start }))) c.self.view_is
    (on_err c.from_residual-in_err-outbox.result (StandsStill g.K.Keeper.works g.K.Keeper.keeps (record { run = c.self.inside.dispatcher.run; lines = c.self.inside.dispatcher.lines; counts = c.self.inside.tally; start = c.self.inside.start }) (record { run = c.join.new.self.run; lines = c.join.new.self.lines; counts = c.self.inside.tally; start = c.self.inside.start }))
    (stands_still g.K.Keeper.works g.K.Keeper.keeps (record { run = c.self.inside.dispatcher.run; lines = c.self.inside.dispatcher.lines; counts = c.self.inside.tally; start = c.self.inside.start }) (record { run = c.join.new.self.run; lines = c.join.new.self.lines; counts = c.self.inside.tally; start = c.self.inside.start })
    c.in_err-outbox.ensures.stands (unanswered_left (input.Up (up.Hello c.args.session.now)) c.args.now c.self.inside.dispatcher.run.server c.join.new.self.run.server c.in_err-outbox.field-0.0 c.in_err-outbox.ensures.refused) refl refl))
