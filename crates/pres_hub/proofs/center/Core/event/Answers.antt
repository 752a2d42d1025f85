use Rattle.std.proofs.Common.{subst, sym, refl}
use Rattle.std.specs.Prelude.{OnErr}
use Rattle.pres_dispatch.specs.Dispatches.{NoneSlow}
use Rattle.pres_hub.specs.Cores.{GoesOn}
use Rattle.pres_hub.specs.CoreTurns.{CarriesOn, StandsStill}
use Rattle.pres_hub.specs.CoreCalls.{IsCarriedOut}
use Rattle.pres_hub.proofs.Counted.{same_accepted, no_hello}
use Rattle.pres_hub.proofs.CoreHistories.{some_goes_on, goes_same, goes_carried, carries_on, stands_still, on_err}
use Rattle.pres_hub.proofs.Ends.{turn_left}
use Rattle.pres_hub.proofs.center.Core.event.Goals as goal

pub turn-requires : goal.turn-requires
turn-requires g c = no_hello c.args.input c.requires

pub invariant_of-self-2 : goal.invariant_of-self-2
invariant_of-self-2 g c =
    let done = c.in_ok-turn.ensures.answered in
    record {
      stands =
          some_goes_on g.K.Keeper.works g.K.Keeper.keeps
          (record { run = c.self.inside.dispatcher.run; lines = c.self.inside.dispatcher.lines; counts = c.self.inside.tally; start = c.self.inside.start })
          (record { run = c.end_slow.new.self.run; lines = c.end_slow.new.self.lines; counts = c.self.inside.tally; start = c.self.inside.start })
          (goes_carried g.K.Keeper.works g.K.Keeper.keeps
          (record { run = c.self.inside.dispatcher.run; lines = c.self.inside.dispatcher.lines; counts = c.self.inside.tally; start = c.self.inside.start })
          (record { run = c.end_slow.new.self.run; lines = c.end_slow.new.self.lines; counts = c.self.inside.tally; start = c.self.inside.start })
          c.turn.new.self c.args.input c.args.now refl c.in_ok-turn.ensures.stands
          (λ l h. same_accepted c.self.inside.start c.self.inside.tally.accepted l c.self.inside.dispatcher.run.server c.turn.new.self.run.server c.args.input c.args.now done.0 c.requires done.1 h) c.end_slow.ensures.stands)
          c.self.invariant.stands;
      none_slow = c.end_slow.ensures.none_slow;
    }

pub returns-clause-goes_on : goal.returns-clause-goes_on
returns-clause-goes_on g c =
    let done = c.in_ok-turn.ensures.answered in
    subst (λ x. GoesOn g.K.Keeper.works g.K.Keeper.keeps x (record { run = c.end_slow.new.self.run; lines = c.end_slow.new.self.lines; counts = c.self.inside.tally; start = c.self.inside.start })) c.self.view_is
    (goes_carried g.K.Keeper.works g.K.Keeper.keeps
    (record { run = c.self.inside.dispatcher.run; lines = c.self.inside.dispatcher.lines; counts = c.self.inside.tally; start = c.self.inside.start })
    (record { run = c.end_slow.new.self.run; lines = c.end_slow.new.self.lines; counts = c.self.inside.tally; start = c.self.inside.start })
    c.turn.new.self c.args.input c.args.now refl c.in_ok-turn.ensures.stands
    (λ l h. same_accepted c.self.inside.start c.self.inside.tally.accepted l c.self.inside.dispatcher.run.server c.turn.new.self.run.server c.args.input c.args.now done.0 c.requires done.1 h) c.end_slow.ensures.stands)

pub returns-clause-done : goal.returns-clause-done
returns-clause-done g c =
    subst (λ x. IsCarriedOut c.args.input c.args.now x.run.server c.end_slow.new.self.run.server x.lines c.end_slow.new.self.lines) c.self.view_is
    (record {
      middle = c.turn.new.self.run.server;
      lines = c.turn.new.self.lines;
      answered = c.in_ok-turn.ensures.answered;
      ended = c.end_slow.ensures.ended;
    })

pub invariant_of-self : goal.invariant_of-self
invariant_of-self g c = record {
  stands =
      some_goes_on g.K.Keeper.works g.K.Keeper.keeps
      (record { run = c.self.inside.dispatcher.run; lines = c.self.inside.dispatcher.lines; counts = c.self.inside.tally; start = c.self.inside.start })
      (record { run = c.turn.new.self.run; lines = c.turn.new.self.lines; counts = c.self.inside.tally; start = c.self.inside.start })
      (goes_same g.K.Keeper.works g.K.Keeper.keeps
      (record { run = c.self.inside.dispatcher.run; lines = c.self.inside.dispatcher.lines; counts = c.self.inside.tally; start = c.self.inside.start })
      (record { run = c.turn.new.self.run; lines = c.turn.new.self.lines; counts = c.self.inside.tally; start = c.self.inside.start })
      c.in_err-turn.ensures.stands (turn_left c.args.input c.args.now c.self.inside.dispatcher.run.server c.turn.new.self.run.server c.in_err-turn.field-0.0 c.in_err-turn.ensures.refused) refl refl)
      c.self.invariant.stands;
  none_slow = subst NoneSlow (sym c.in_err-turn.ensures.lines) c.self.invariant.none_slow;
}

pub returns-in_err-turn-clause-goes_on : goal.returns-in_err-turn-clause-goes_on
returns-in_err-turn-clause-goes_on g c =
    subst (λ x. GoesOn g.K.Keeper.works g.K.Keeper.keeps x (record { run = c.turn.new.self.run; lines = c.turn.new.self.lines; counts = c.self.inside.tally; start = c.self.inside.start })) c.self.view_is
    (goes_same g.K.Keeper.works g.K.Keeper.keeps
    (record { run = c.self.inside.dispatcher.run; lines = c.self.inside.dispatcher.lines; counts = c.self.inside.tally; start = c.self.inside.start })
    (record { run = c.turn.new.self.run; lines = c.turn.new.self.lines; counts = c.self.inside.tally; start = c.self.inside.start })
    c.in_err-turn.ensures.stands (turn_left c.args.input c.args.now c.self.inside.dispatcher.run.server c.turn.new.self.run.server c.in_err-turn.field-0.0 c.in_err-turn.ensures.refused) refl refl)

pub returns-clause-carries : goal.returns-clause-carries
returns-clause-carries g c =
    let done = c.in_ok-turn.ensures.answered in
    subst (λ x. CarriesOn g.K.Keeper.works g.K.Keeper.keeps c.args.input c.args.now x (record { run = c.end_slow.new.self.run; lines = c.end_slow.new.self.lines; counts = c.self.inside.tally; start = c.self.inside.start })) c.self.view_is
    (λ before stands.
    let k =
    carries_on g.K.Keeper.works g.K.Keeper.keeps
    (record { run = c.self.inside.dispatcher.run; lines = c.self.inside.dispatcher.lines; counts = c.self.inside.tally; start = c.self.inside.start })
    (record { run = c.end_slow.new.self.run; lines = c.end_slow.new.self.lines; counts = c.self.inside.tally; start = c.self.inside.start })
    c.turn.new.self c.args.input c.args.now refl c.in_ok-turn.ensures.stands
    (λ l h. same_accepted c.self.inside.start c.self.inside.tally.accepted l c.self.inside.dispatcher.run.server c.turn.new.self.run.server c.args.input c.args.now done.0 c.requires done.1 h) c.end_slow.ensures.stands before stands in
    (record { middle = c.turn.new.self.run.server; lines = c.turn.new.self.lines; answered = done; ended = k.0 }, k.1))

pub returns-in_err-turn-clause-still : goal.returns-in_err-turn-clause-still
returns-in_err-turn-clause-still g c =
    subst (λ x. OnErr c.from_residual.result (StandsStill g.K.Keeper.works g.K.Keeper.keeps x (record { run = c.turn.new.self.run; lines = c.turn.new.self.lines; counts = c.self.inside.tally; start = c.self.inside.start }))) c.self.view_is
    (on_err c.from_residual.result (StandsStill g.K.Keeper.works g.K.Keeper.keeps (record { run = c.self.inside.dispatcher.run; lines = c.self.inside.dispatcher.lines; counts = c.self.inside.tally; start = c.self.inside.start }) (record { run = c.turn.new.self.run; lines = c.turn.new.self.lines; counts = c.self.inside.tally; start = c.self.inside.start }))
    (stands_still g.K.Keeper.works g.K.Keeper.keeps (record { run = c.self.inside.dispatcher.run; lines = c.self.inside.dispatcher.lines; counts = c.self.inside.tally; start = c.self.inside.start }) (record { run = c.turn.new.self.run; lines = c.turn.new.self.lines; counts = c.self.inside.tally; start = c.self.inside.start })
    c.in_err-turn.ensures.stands (turn_left c.args.input c.args.now c.self.inside.dispatcher.run.server c.turn.new.self.run.server c.in_err-turn.field-0.0 c.in_err-turn.ensures.refused) refl refl))
