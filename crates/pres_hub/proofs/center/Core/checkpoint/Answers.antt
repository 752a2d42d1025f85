use Rattle.std.proofs.Common.{sym, subst, refl, inl, IfSome}
use Rattle.std.specs.Prelude.{OnErr}
use Rattle.pres_server.specs.Histories.{begun_at}
use Rattle.pres_keeper.specs.Engines.{Runs}
use Rattle.pres_dispatch.specs.Dispatches.{NoneSlow}
use Rattle.pres_dispatch.proofs.Ended.{passed_on}
use Rattle.pres_faults.specs.HubFaults.{of_engine}
use Rattle.pres_hub.specs.Cores.{AreCoreHistories}
use Rattle.pres_hub.specs.CoreCalls.{IsCheckpointRefused}
use Rattle.pres_hub.specs.CoreTurns.{StandsStill, CheckpointsOn}
use Rattle.pres_hub.proofs.CoreHistories.{stands_of, some_goes_on, goes_same, stands_still, checkpoints_on, some_checkpointed, on_err, not_checkpointed}
use Rattle.pres_hub.proofs.center.Core.checkpoint.Goals as goal

pub invariant_of-self-2 : goal.invariant_of-self-2
invariant_of-self-2 g c =
    let K = g.K.Keeper in
    record {
      stands =
          some_checkpointed K.works K.keeps c.in_ok-number.number (record { run = c.self.inside.dispatcher.run; lines = c.self.inside.dispatcher.lines; counts = c.self.inside.tally; start = c.self.inside.start })
          (record { run = c.checkpoint.new.self.run; lines = c.checkpoint.new.self.lines; counts = c.self.inside.tally; start = c.self.inside.start })
          (checkpoints_on K.works K.keeps c.in_ok-number.number (record { run = c.self.inside.dispatcher.run; lines = c.self.inside.dispatcher.lines; counts = c.self.inside.tally; start = c.self.inside.start })
          (record { run = c.checkpoint.new.self.run; lines = c.checkpoint.new.self.lines; counts = c.self.inside.tally; start = c.self.inside.start })
          c.in_ok-number.ensures.stands c.checkpoint.ensures.server refl refl)
          c.self.invariant.stands;
      none_slow = subst NoneSlow (sym c.checkpoint.ensures.lines) c.self.invariant.none_slow;
    }

pub invariant_of-self : goal.invariant_of-self
invariant_of-self g c =
    let K = g.K.Keeper in
    record {
      stands =
          some_goes_on K.works K.keeps (record { run = c.self.inside.dispatcher.run; lines = c.self.inside.dispatcher.lines; counts = c.self.inside.tally; start = c.self.inside.start })
          (record { run = c.checkpoint.new.self.run; lines = c.checkpoint.new.self.lines; counts = c.self.inside.tally; start = c.self.inside.start })
          (goes_same K.works K.keeps (record { run = c.self.inside.dispatcher.run; lines = c.self.inside.dispatcher.lines; counts = c.self.inside.tally; start = c.self.inside.start })
          (record { run = c.checkpoint.new.self.run; lines = c.checkpoint.new.self.lines; counts = c.self.inside.tally; start = c.self.inside.start })
          c.in_err-number.ensures.stands (inl c.checkpoint.ensures.server) refl refl)
          c.self.invariant.stands;
      none_slow = subst NoneSlow (sym c.checkpoint.ensures.lines) c.self.invariant.none_slow;
    }

pub returns-clause-stands : goal.returns-clause-stands
returns-clause-stands g c =
    let K = g.K.Keeper in
    subst (λ x. CheckpointsOn K.works K.keeps c.in_ok-number.number x (record { run = c.checkpoint.new.self.run; lines = c.checkpoint.new.self.lines; counts = c.self.inside.tally; start = c.self.inside.start })) c.self.view_is
    (checkpoints_on K.works K.keeps c.in_ok-number.number (record { run = c.self.inside.dispatcher.run; lines = c.self.inside.dispatcher.lines; counts = c.self.inside.tally; start = c.self.inside.start })
    (record { run = c.checkpoint.new.self.run; lines = c.checkpoint.new.self.lines; counts = c.self.inside.tally; start = c.self.inside.start })
    c.in_ok-number.ensures.stands c.checkpoint.ensures.server refl refl)

pub returns-clause-durable : goal.returns-clause-durable
returns-clause-durable g c = λ h stands.
    let K = g.K.Keeper in
    subst (λ x. IfSome c.in_ok-number.number (λ _. Runs (λ s. K.outlasts c.checkpoint.new.self.run.keeper (begun_at s.sum)) x.run.server)) c.self.view_is
    (c.in_ok-number.ensures.durable h
    (stands_of K.works K.keeps h (record { run = c.self.inside.dispatcher.run; lines = c.self.inside.dispatcher.lines; counts = c.self.inside.tally; start = c.self.inside.start })
    (subst (AreCoreHistories K.works K.keeps h) (sym c.self.view_is) stands)))

pub returns-in_err-number-clause-still : goal.returns-in_err-number-clause-still
returns-in_err-number-clause-still g c =
    let K = g.K.Keeper in
    subst (λ x. OnErr c.from_residual.result (StandsStill K.works K.keeps x (record { run = c.checkpoint.new.self.run; lines = c.checkpoint.new.self.lines; counts = c.self.inside.tally; start = c.self.inside.start }))) c.self.view_is
    (on_err c.from_residual.result (StandsStill K.works K.keeps (record { run = c.self.inside.dispatcher.run; lines = c.self.inside.dispatcher.lines; counts = c.self.inside.tally; start = c.self.inside.start }) (record { run = c.checkpoint.new.self.run; lines = c.checkpoint.new.self.lines; counts = c.self.inside.tally; start = c.self.inside.start }))
    (stands_still K.works K.keeps (record { run = c.self.inside.dispatcher.run; lines = c.self.inside.dispatcher.lines; counts = c.self.inside.tally; start = c.self.inside.start })
    (record { run = c.checkpoint.new.self.run; lines = c.checkpoint.new.self.lines; counts = c.self.inside.tally; start = c.self.inside.start })
    c.in_err-number.ensures.stands (inl c.checkpoint.ensures.server) refl refl))

pub returns-in_err-number-clause-refused : goal.returns-in_err-number-clause-refused
returns-in_err-number-clause-refused g c =
    passed_on c.from_residual.result (of_engine c.in_err-number.field-0.0) (IsCheckpointRefused c.args.self.now.run.server) c.from_residual.ensures.1
    (subst (λ x. IsCheckpointRefused x.run.server (of_engine c.in_err-number.field-0.0)) c.self.view_is
    (not_checkpointed c.self.inside.dispatcher.run.server c.in_err-number.field-0.0 c.in_err-number.ensures.refused))
