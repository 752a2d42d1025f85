use Rattle.std.proofs.Common.{◌≡◌, ◌+◌, sym, ◌∙◌, ap, subst, refl}
use Rattle.pres_server.specs.declared.input.Input.TheVariants as input
use Rattle.pres_keeper.specs.Engines.{Runs}
use Rattle.pres_keeper.specs.EngineTurns.{history_turned}
use Rattle.std.specs.Prelude.{OnErr}
use Rattle.pres_hub.specs.CoreTurns.{CarriesOn, StandsStill}
use Rattle.pres_hub.specs.Cores.{GoesOn}
use Rattle.pres_hub.specs.CoreCalls.{accepted_of, IsCarriedOut}
use Rattle.pres_hub.proofs.Counted.{Accepted, said_accepted}
use Rattle.pres_dispatch.specs.Dispatches.{NoneSlow}
use Rattle.pres_hub.proofs.CoreHistories.{some_goes_on, goes_same, goes_carried, carries_on, stands_still, on_err, few_runs}
use Rattle.pres_hub.proofs.Ends.{event_left}
use Rattle.pres_hub.proofs.center.Core.say.Goals as goal

pub take_message-requires-clause-few : goal.take_message-requires-clause-few
take_message-requires-clause-few g c =
    few_runs g.K.Keeper.works g.K.Keeper.keeps (record { run = c.self.inside.dispatcher.run; lines = c.self.inside.dispatcher.lines; counts = c.self.inside.tally; start = c.self.inside.start }) c.self.invariant.stands

pub invariant_of-self-2 : goal.invariant_of-self-2
invariant_of-self-2 g c =
    let answered = c.in_ok-take_message.ensures.answered in
    let i = input.Up c.args.up in
    record {
      stands =
          some_goes_on g.K.Keeper.works g.K.Keeper.keeps
          (record { run = c.self.inside.dispatcher.run; lines = c.self.inside.dispatcher.lines; counts = c.self.inside.tally; start = c.self.inside.start })
          (record { run = c.end_slow.new.self.run; lines = c.end_slow.new.self.lines; counts = c.take_message.new.tally; start = c.self.inside.start })
          (goes_carried g.K.Keeper.works g.K.Keeper.keeps
          (record { run = c.self.inside.dispatcher.run; lines = c.self.inside.dispatcher.lines; counts = c.self.inside.tally; start = c.self.inside.start })
          (record { run = c.end_slow.new.self.run; lines = c.end_slow.new.self.lines; counts = c.take_message.new.tally; start = c.self.inside.start })
          c.take_message.new.dispatcher i c.args.now refl c.in_ok-take_message.ensures.stands
          (λ l h.
          subst (λ n. Runs (Accepted c.self.inside.start n (history_turned l c.self.inside.dispatcher.run.server i c.args.now)) c.take_message.new.dispatcher.run.server) (sym (ap (λ x. x.accepted) c.in_ok-take_message.ensures.tally))
          (said_accepted c.self.inside.start c.self.inside.tally.accepted l c.self.inside.dispatcher.run.server c.take_message.new.dispatcher.run.server c.args.up c.args.now answered.0 answered.1 h))
          c.end_slow.ensures.stands)
          c.self.invariant.stands;
      none_slow = c.end_slow.ensures.none_slow;
    }

pub returns-clause-goes_on : goal.returns-clause-goes_on
returns-clause-goes_on g c =
    let answered = c.in_ok-take_message.ensures.answered in
    let i = input.Up c.args.up in
    subst (λ x. GoesOn g.K.Keeper.works g.K.Keeper.keeps x (record { run = c.end_slow.new.self.run; lines = c.end_slow.new.self.lines; counts = c.take_message.new.tally; start = c.self.inside.start })) c.self.view_is
    (goes_carried g.K.Keeper.works g.K.Keeper.keeps
    (record { run = c.self.inside.dispatcher.run; lines = c.self.inside.dispatcher.lines; counts = c.self.inside.tally; start = c.self.inside.start })
    (record { run = c.end_slow.new.self.run; lines = c.end_slow.new.self.lines; counts = c.take_message.new.tally; start = c.self.inside.start })
    c.take_message.new.dispatcher i c.args.now refl c.in_ok-take_message.ensures.stands
    (λ l h.
    subst (λ n. Runs (Accepted c.self.inside.start n (history_turned l c.self.inside.dispatcher.run.server i c.args.now)) c.take_message.new.dispatcher.run.server) (sym (ap (λ x. x.accepted) c.in_ok-take_message.ensures.tally))
    (said_accepted c.self.inside.start c.self.inside.tally.accepted l c.self.inside.dispatcher.run.server c.take_message.new.dispatcher.run.server c.args.up c.args.now answered.0 answered.1 h))
    c.end_slow.ensures.stands)

pub returns-clause-heard : goal.returns-clause-heard
returns-clause-heard g c =
    let new = c.end_slow.new.self.run.server in
    let taken = c.in_default.ensures in
    record {
      taken = record { runs = taken.runs; own = taken.own; fresh = taken.fresh; abreast = taken.abreast };
      carried = subst (λ x. IsCarriedOut (input.Up c.args.up) c.args.now x.run.server new x.lines c.end_slow.new.self.lines) c.self.view_is (record {
        middle = c.take_message.new.dispatcher.run.server;
        lines = c.take_message.new.dispatcher.lines;
        answered = c.in_ok-take_message.ensures.answered;
        ended = c.end_slow.ensures.ended;
      });
      seat_is = subst (λ x. c.see.new.self ≡ record { session = c.args.seat.now.session; q = c.args.seat.now.q + accepted_of x.run.server c.args.up c.args.now; seen = c.number-number.result; made = c.args.seat.now.made + accepted_of x.run.server c.args.up c.args.now }) c.self.view_is
          (c.see.ensures ∙ ap (λ t. record { session = t.session; q = t.q; seen = c.number-number.result; made = t.made }) c.in_ok-take_message.ensures.seat);
      counts_are = subst (λ x. c.take_message.new.tally ≡ record { accepted = x.counts.accepted + accepted_of x.run.server c.args.up c.args.now; seats = x.counts.seats; out = x.counts.out }) c.self.view_is c.in_ok-take_message.ensures.tally;
    }

pub invariant_of-self : goal.invariant_of-self
invariant_of-self g c = record {
  stands =
      some_goes_on g.K.Keeper.works g.K.Keeper.keeps
      (record { run = c.self.inside.dispatcher.run; lines = c.self.inside.dispatcher.lines; counts = c.self.inside.tally; start = c.self.inside.start })
      (record { run = c.take_message.new.dispatcher.run; lines = c.take_message.new.dispatcher.lines; counts = c.take_message.new.tally; start = c.self.inside.start })
      (goes_same g.K.Keeper.works g.K.Keeper.keeps
      (record { run = c.self.inside.dispatcher.run; lines = c.self.inside.dispatcher.lines; counts = c.self.inside.tally; start = c.self.inside.start })
      (record { run = c.take_message.new.dispatcher.run; lines = c.take_message.new.dispatcher.lines; counts = c.take_message.new.tally; start = c.self.inside.start })
      c.in_err-take_message.ensures.stands (event_left (input.Up c.args.up) c.args.now c.self.inside.dispatcher.run.server c.take_message.new.dispatcher.run.server c.in_err-take_message.field-0.0 c.in_err-take_message.ensures.refused) refl
      (ap (λ x. x.accepted) c.in_err-take_message.ensures.kept.0))
      c.self.invariant.stands;
  none_slow = subst NoneSlow (sym c.in_err-take_message.ensures.lines) c.self.invariant.none_slow;
}

pub returns-in_err-take_message-clause-goes_on : goal.returns-in_err-take_message-clause-goes_on
returns-in_err-take_message-clause-goes_on g c =
    subst (λ x. GoesOn g.K.Keeper.works g.K.Keeper.keeps x (record { run = c.take_message.new.dispatcher.run; lines = c.take_message.new.dispatcher.lines; counts = c.take_message.new.tally; start = c.self.inside.start })) c.self.view_is
    (goes_same g.K.Keeper.works g.K.Keeper.keeps
    (record { run = c.self.inside.dispatcher.run; lines = c.self.inside.dispatcher.lines; counts = c.self.inside.tally; start = c.self.inside.start })
    (record { run = c.take_message.new.dispatcher.run; lines = c.take_message.new.dispatcher.lines; counts = c.take_message.new.tally; start = c.self.inside.start })
    c.in_err-take_message.ensures.stands (event_left (input.Up c.args.up) c.args.now c.self.inside.dispatcher.run.server c.take_message.new.dispatcher.run.server c.in_err-take_message.field-0.0 c.in_err-take_message.ensures.refused) refl
    (ap (λ x. x.accepted) c.in_err-take_message.ensures.kept.0))

pub returns-clause-carries : goal.returns-clause-carries
returns-clause-carries g c =
    let answered = c.in_ok-take_message.ensures.answered in
    let i = input.Up c.args.up in
    subst (λ x. CarriesOn g.K.Keeper.works g.K.Keeper.keeps i c.args.now x (record { run = c.end_slow.new.self.run; lines = c.end_slow.new.self.lines; counts = c.take_message.new.tally; start = c.self.inside.start })) c.self.view_is
    (λ before stands.
    let k =
    carries_on g.K.Keeper.works g.K.Keeper.keeps
    (record { run = c.self.inside.dispatcher.run; lines = c.self.inside.dispatcher.lines; counts = c.self.inside.tally; start = c.self.inside.start })
    (record { run = c.end_slow.new.self.run; lines = c.end_slow.new.self.lines; counts = c.take_message.new.tally; start = c.self.inside.start })
    c.take_message.new.dispatcher i c.args.now refl c.in_ok-take_message.ensures.stands
    (λ l h.
    subst (λ n. Runs (Accepted c.self.inside.start n (history_turned l c.self.inside.dispatcher.run.server i c.args.now)) c.take_message.new.dispatcher.run.server) (sym (ap (λ x. x.accepted) c.in_ok-take_message.ensures.tally))
    (said_accepted c.self.inside.start c.self.inside.tally.accepted l c.self.inside.dispatcher.run.server c.take_message.new.dispatcher.run.server c.args.up c.args.now answered.0 answered.1 h))
    c.end_slow.ensures.stands before stands in
    (record { middle = c.take_message.new.dispatcher.run.server; lines = c.take_message.new.dispatcher.lines; answered = answered; ended = k.0 }, k.1))

pub returns-in_err-take_message-clause-still : goal.returns-in_err-take_message-clause-still
returns-in_err-take_message-clause-still g c =
    subst (λ x. OnErr c.from_residual.result (StandsStill g.K.Keeper.works g.K.Keeper.keeps x (record { run = c.take_message.new.dispatcher.run; lines = c.take_message.new.dispatcher.lines; counts = c.take_message.new.tally; start = c.self.inside.start }))) c.self.view_is
    (on_err c.from_residual.result (StandsStill g.K.Keeper.works g.K.Keeper.keeps (record { run = c.self.inside.dispatcher.run; lines = c.self.inside.dispatcher.lines; counts = c.self.inside.tally; start = c.self.inside.start }) (record { run = c.take_message.new.dispatcher.run; lines = c.take_message.new.dispatcher.lines; counts = c.take_message.new.tally; start = c.self.inside.start }))
    (stands_still g.K.Keeper.works g.K.Keeper.keeps (record { run = c.self.inside.dispatcher.run; lines = c.self.inside.dispatcher.lines; counts = c.self.inside.tally; start = c.self.inside.start }) (record { run = c.take_message.new.dispatcher.run; lines = c.take_message.new.dispatcher.lines; counts = c.take_message.new.tally; start = c.self.inside.start })
    c.in_err-take_message.ensures.stands (event_left (input.Up c.args.up) c.args.now c.self.inside.dispatcher.run.server c.take_message.new.dispatcher.run.server c.in_err-take_message.field-0.0 c.in_err-take_message.ensures.refused) refl
    (ap (λ x. x.accepted) c.in_err-take_message.ensures.kept.0)))
