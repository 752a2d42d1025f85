use Rattle.std.proofs.Common.{sym, subst}
use Rattle.pres_dispatch.specs.Dispatches.{Stands, SomeStands, started_with}
use Rattle.pres_dispatch.proofs.Standing.{stands_opened, some_opened}
use Rattle.pres_dispatch.proofs.dispatcher.Dispatcher.of.Goals as goal

pub invariant_of-result : goal.invariant_of-result
invariant_of-result g c =
    subst (λ lines. SomeStands g.K.Keeper.works g.K.Keeper.keeps (record { run = c.args.engine; lines = lines })) (sym c.new.ensures)
    (some_opened g.K.Keeper.works g.K.Keeper.keeps c.args.engine c.requires c.number.ensures.counted c.number.ensures.kept)

pub returns-clause-stands : goal.returns-clause-stands
returns-clause-stands g c = λ history is kept.
    subst (λ lines. Stands g.K.Keeper.works g.K.Keeper.keeps (started_with history) (record { run = c.args.engine; lines = lines })) (sym c.new.ensures)
    (stands_opened g.K.Keeper.works g.K.Keeper.keeps c.args.engine c.requires c.number.ensures.counted history is kept)
