use Rattle.std.proofs.Common.{◌≡◌, ◌∙◌, ap, sym, subst, refl, inl}
use Rattle.pres_hub.specs.Cores.{GoesOn, end_by}
use Rattle.pres_hub.specs.CoreTurns.{CarriesOn}
use Rattle.pres_hub.proofs.CoreHistories.{goes_twice, goes_still, stands_still, carries_recounted, on_none, some_goes_on, struck_none_slow}
use Rattle.pres_hub.proofs.center.Core.leave.Goals as goal

pub returns-in-Ok-clause-carries : goal.returns-in-Ok-clause-carries
returns-in-Ok-clause-carries g c =
    let before : c.args.self.now ≡ record { run = c.take_down.new.self.run; lines = c.take_down.new.self.lines; counts = c.self.inside.tally; start = c.self.inside.start } =
    sym (ap (λ x. record { run = x.run; lines = x.lines; counts = c.self.inside.tally; start = c.self.inside.start }) c.take_down.ensures ∙ c.self.view_is) in
    on_none c.take.result.fault (CarriesOn g.K.Keeper.works g.K.Keeper.keeps (end_by c.args.why c.args.seat.session) c.args.now c.args.self.now (record { run = c.self-2.inside.dispatcher.run; lines = c.self-2.inside.dispatcher.lines; counts = c.take.new.self; start = c.self-2.inside.start }))
    (carries_recounted g.K.Keeper.works g.K.Keeper.keeps (record { run = c.self-2.inside.dispatcher.run; lines = c.self-2.inside.dispatcher.lines; counts = c.self-2.inside.tally; start = c.self-2.inside.start }) c.take.new.self (ap (λ t. t.accepted) c.take.ensures.tally) (end_by c.args.why c.args.seat.session) c.args.now c.args.self.now
    (subst (λ x. CarriesOn g.K.Keeper.works g.K.Keeper.keeps (end_by c.args.why c.args.seat.session) c.args.now c.args.self.now x) (sym c.self-2.view_is)
    (subst (λ x. CarriesOn g.K.Keeper.works g.K.Keeper.keeps (end_by c.args.why c.args.seat.session) c.args.now x c.end.new.self) (sym before)
    (subst (λ s. CarriesOn g.K.Keeper.works g.K.Keeper.keeps (end_by c.args.why s) c.args.now (record { run = c.take_down.new.self.run; lines = c.take_down.new.self.lines; counts = c.self.inside.tally; start = c.self.inside.start }) c.end.new.self) c.session-2.ensures
    c.in-Ok.ensures.carries))))

pub returns-in-Err-clause-goes_on : goal.returns-in-Err-clause-goes_on
returns-in-Err-clause-goes_on g c =
    let before : c.args.self.now ≡ record { run = c.take_down.new.self.run; lines = c.take_down.new.self.lines; counts = c.self.inside.tally; start = c.self.inside.start } =
    sym (ap (λ x. record { run = x.run; lines = x.lines; counts = c.self.inside.tally; start = c.self.inside.start }) c.take_down.ensures ∙ c.self.view_is) in
    goes_twice g.K.Keeper.works g.K.Keeper.keeps c.args.self.now
    (record { run = c.self-2.inside.dispatcher.run; lines = c.self-2.inside.dispatcher.lines; counts = c.self-2.inside.tally; start = c.self-2.inside.start })
    (record { run = c.strike.new.self.run; lines = c.strike.new.self.lines; counts = c.take-in-Err.new.self; start = c.self-2.inside.start })
    (subst (λ x. GoesOn g.K.Keeper.works g.K.Keeper.keeps c.args.self.now x) (sym c.self-2.view_is)
    (subst (λ x. GoesOn g.K.Keeper.works g.K.Keeper.keeps x c.end.new.self) (sym before) c.end.ensures.goes_on))
    (goes_still g.K.Keeper.works g.K.Keeper.keeps (record { run = c.self-2.inside.dispatcher.run; lines = c.self-2.inside.dispatcher.lines; counts = c.self-2.inside.tally; start = c.self-2.inside.start })
    (record { run = c.strike.new.self.run; lines = c.strike.new.self.lines; counts = c.take-in-Err.new.self; start = c.self-2.inside.start })
    (stands_still g.K.Keeper.works g.K.Keeper.keeps (record { run = c.self-2.inside.dispatcher.run; lines = c.self-2.inside.dispatcher.lines; counts = c.self-2.inside.tally; start = c.self-2.inside.start })
    (record { run = c.strike.new.self.run; lines = c.strike.new.self.lines; counts = c.take-in-Err.new.self; start = c.self-2.inside.start })
    c.strike.ensures.stands (inl (ap (λ run. run.server) c.strike.ensures.run)) refl (ap (λ t. t.accepted) c.take-in-Err.ensures.tally)))

pub invariant_of-self-in-Err : goal.invariant_of-self-in-Err
invariant_of-self-in-Err g c =
    let K = g.K.Keeper in
    record {
      stands =
          some_goes_on K.works K.keeps (record { run = c.self-2.inside.dispatcher.run; lines = c.self-2.inside.dispatcher.lines; counts = c.self-2.inside.tally; start = c.self-2.inside.start }) (record { run = c.strike.new.self.run; lines = c.strike.new.self.lines; counts = c.take-in-Err.new.self; start = c.self-2.inside.start })
          (goes_still K.works K.keeps (record { run = c.self-2.inside.dispatcher.run; lines = c.self-2.inside.dispatcher.lines; counts = c.self-2.inside.tally; start = c.self-2.inside.start }) (record { run = c.strike.new.self.run; lines = c.strike.new.self.lines; counts = c.take-in-Err.new.self; start = c.self-2.inside.start })
          (stands_still K.works K.keeps (record { run = c.self-2.inside.dispatcher.run; lines = c.self-2.inside.dispatcher.lines; counts = c.self-2.inside.tally; start = c.self-2.inside.start }) (record { run = c.strike.new.self.run; lines = c.strike.new.self.lines; counts = c.take-in-Err.new.self; start = c.self-2.inside.start })
          c.strike.ensures.stands (inl (ap (λ run. run.server) c.strike.ensures.run)) refl (ap (λ t. t.accepted) c.take-in-Err.ensures.tally)))
          c.self-2.invariant.stands;
      none_slow = struck_none_slow c.session-in-Err.result.now c.args.why c.self-2.inside.dispatcher.lines c.strike.new.self.lines c.self-2.invariant.none_slow c.strike.ensures.line;
    }
