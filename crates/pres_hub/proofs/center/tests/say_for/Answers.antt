use Rattle.std.proofs.Common.{◌≡◌, sym, ap, subst, refl, IfSome}
use Rattle.pres_server.specs.declared.input.Input.TheVariants as input
use Rattle.pres_wire.specs.Messages.{session_in}
use Rattle.pres_server.specs.Sums.{accepted_in}
use Rattle.pres_keeper.specs.Engines.{Runs}
use Rattle.pres_keeper.specs.EngineTurns.{history_turned}
use Rattle.pres_hub.specs.CoreCalls.{HasSameCount}
use Rattle.pres_hub.proofs.Counted.{Accepted, said_accepted}
use Rattle.pres_dispatch.specs.Dispatches.{NoneSlow}
use Rattle.pres_hub.proofs.CoreHistories.{some_goes_on, goes_same, goes_carried, few_runs}
use Rattle.pres_hub.proofs.Ends.{event_left}
use Rattle.pres_hub.proofs.center.tests.say_for.Goals as goal

pub take_message-requires-clause-abreast : goal.take_message-requires-clause-abreast
take_message-requires-clause-abreast g c =
    let sum = c.in-Some.server.now.sum in
    subst (HasSameCount c.args.up c.args.seat.now.q) c.in-Some.ensures
    (subst (λ n. IfSome (accepted_in (session_in c.args.up) sum) (λ count. count ≡ n)) c.q.ensures (subst (λ t. IfSome (accepted_in t sum) (λ count. count ≡ c.q.result)) c.session.ensures (c.is_apart.ensures.abreast c.if-is_apart.false)))

pub take_message-requires-clause-few : goal.take_message-requires-clause-few
take_message-requires-clause-few g c =
    few_runs g.K.Keeper.works g.K.Keeper.keeps (record { run = c.core.inside.dispatcher.run; lines = c.core.inside.dispatcher.lines; counts = c.core.inside.tally; start = c.core.inside.start }) c.core.invariant.stands

pub invariant_of-core-2 : goal.invariant_of-core-2
invariant_of-core-2 g c =
    let answered = c.in_ok-take_message.ensures.answered in
    let i = input.Up c.args.up in
    record {
      stands =
          some_goes_on g.K.Keeper.works g.K.Keeper.keeps
          (record { run = c.core.inside.dispatcher.run; lines = c.core.inside.dispatcher.lines; counts = c.core.inside.tally; start = c.core.inside.start })
          (record { run = c.end_slow.new.self.run; lines = c.end_slow.new.self.lines; counts = c.take_message.new.tally; start = c.core.inside.start })
          (goes_carried g.K.Keeper.works g.K.Keeper.keeps
          (record { run = c.core.inside.dispatcher.run; lines = c.core.inside.dispatcher.lines; counts = c.core.inside.tally; start = c.core.inside.start })
          (record { run = c.end_slow.new.self.run; lines = c.end_slow.new.self.lines; counts = c.take_message.new.tally; start = c.core.inside.start })
          c.take_message.new.dispatcher i c.args.now refl c.in_ok-take_message.ensures.stands
          (λ l h.
          subst (λ n. Runs (Accepted c.core.inside.start n (history_turned l c.core.inside.dispatcher.run.server i c.args.now)) c.take_message.new.dispatcher.run.server) (sym (ap (λ x. x.accepted) c.in_ok-take_message.ensures.tally))
          (said_accepted c.core.inside.start c.core.inside.tally.accepted l c.core.inside.dispatcher.run.server c.take_message.new.dispatcher.run.server c.args.up c.args.now answered.0 answered.1 h))
          c.end_slow.ensures.stands)
          c.core.invariant.stands;
      none_slow = c.end_slow.ensures.none_slow;
    }

pub invariant_of-core : goal.invariant_of-core
invariant_of-core g c = record {
  stands =
      some_goes_on g.K.Keeper.works g.K.Keeper.keeps
      (record { run = c.core.inside.dispatcher.run; lines = c.core.inside.dispatcher.lines; counts = c.core.inside.tally; start = c.core.inside.start })
      (record { run = c.take_message.new.dispatcher.run; lines = c.take_message.new.dispatcher.lines; counts = c.take_message.new.tally; start = c.core.inside.start })
      (goes_same g.K.Keeper.works g.K.Keeper.keeps
      (record { run = c.core.inside.dispatcher.run; lines = c.core.inside.dispatcher.lines; counts = c.core.inside.tally; start = c.core.inside.start })
      (record { run = c.take_message.new.dispatcher.run; lines = c.take_message.new.dispatcher.lines; counts = c.take_message.new.tally; start = c.core.inside.start })
      c.in_err-take_message.ensures.stands (event_left (input.Up c.args.up) c.args.now c.core.inside.dispatcher.run.server c.take_message.new.dispatcher.run.server c.in_err-take_message.field-0.0 c.in_err-take_message.ensures.refused) refl
      (ap (λ x. x.accepted) c.in_err-take_message.ensures.kept.0))
      c.core.invariant.stands;
  none_slow = subst NoneSlow (sym c.in_err-take_message.ensures.lines) c.core.invariant.none_slow;
}
