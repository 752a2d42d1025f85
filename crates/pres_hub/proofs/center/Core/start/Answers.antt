use Rattle.std.proofs.Common.{ap, sym, subst}
use Rattle.pres_dispatch.specs.Dispatches.{NoneSlow, history_restarted}
use Rattle.pres_hub.proofs.CoreHistories.{core_started, some_started}
use Rattle.pres_hub.proofs.center.Core.start.Goals as goal

pub returns-in-Ok-clause-ended : goal.returns-in-Ok-clause-ended
returns-in-Ok-clause-ended g c = λ history works keeps.
    let ended = c.in-Ok.ensures.ended history works keeps in (
      ended.0,
      core_started g.K.Keeper.works g.K.Keeper.keeps (history_restarted history ended.0) (record { run = c.in-Ok.dispatcher.run; lines = c.in-Ok.dispatcher.lines; counts = c.open.result; start = c.number-start.result }) c.number-start.ensures.number
          (ap (λ x. x.accepted) c.open.ensures) c.number-start.ensures.counted ended.1,
    )

pub invariant_of-result : goal.invariant_of-result
invariant_of-result g c =
    let K = g.K.Keeper in
    record {
      stands =
          some_started K.works K.keeps (record { run = c.in-Ok.dispatcher.run; lines = c.in-Ok.dispatcher.lines; counts = c.open.result; start = c.number-start.result }) c.number-start.ensures.number (ap (λ x. x.accepted) c.open.ensures) c.in-Ok.ensures.lines c.number-start.ensures.counted
          c.in-Ok.ensures.closed c.number-start.ensures.stands;
      none_slow = subst NoneSlow (sym c.in-Ok.ensures.lines) (λ s. tt);
    }

pub returns-in-Ok-clause-stands : goal.returns-in-Ok-clause-stands
returns-in-Ok-clause-stands g c =
    let K = g.K.Keeper in
    record {
      stands =
          some_started K.works K.keeps (record { run = c.in-Ok.dispatcher.run; lines = c.in-Ok.dispatcher.lines; counts = c.open.result; start = c.number-start.result }) c.number-start.ensures.number (ap (λ x. x.accepted) c.open.ensures) c.in-Ok.ensures.lines c.number-start.ensures.counted
          c.in-Ok.ensures.closed c.number-start.ensures.stands;
      none_slow = subst NoneSlow (sym c.in-Ok.ensures.lines) (λ s. tt);
    }
