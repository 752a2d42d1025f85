use Rattle.std.proofs.Common.{◌∙◌, ◌++◌, sym, subst, ap, map, arith}
use Rattle.pres_dispatch.specs.Dispatches.{Histories, Stands, StayMarked}
use Rattle.pres_dispatch.specs.Groups.{AreTurned, TurnsStand, turned_of}
use Rattle.pres_dispatch.proofs.Several.{all_plain, may_deliver, as_many, are_turned, turns_stand, some_turned, delivered_marks}
use Rattle.pres_dispatch.proofs.dispatcher.Dispatcher.turn_all.Goals as goal

pub deliver_all-requires-clause-told : goal.deliver_all-requires-clause-told
deliver_all-requires-clause-told g c =
    let K = g.K.Keeper in
    may_deliver K.works K.keeps K.outlasts (record { run = c.self.inside.engine; lines = c.self.inside.lines }) c.turn_all.new.self c.args.inputs.items c.args.now c.in-Ok-turn_all.results (all_plain c.args.inputs.items c.requires) c.in-Ok-turn_all.ensures.turned c.self.invariant

pub deliver_all-requires-clause-room : goal.deliver_all-requires-clause-room
deliver_all-requires-clause-room g c =
    let K = g.K.Keeper in
    let many = as_many K.works K.keeps K.outlasts (record { run = c.self.inside.engine; lines = c.self.inside.lines }) c.turn_all.new.self c.args.inputs.items c.args.now c.in-Ok-turn_all.results (all_plain c.args.inputs.items c.requires) c.in-Ok-turn_all.ensures.turned c.self.invariant in
    omega (arith, many, c.len.ensures, c.in-Ok.ensures.len, c.in-Ok.ensures.capacity, c.args.inputs.ok)

pub invariant_of-self-2 : goal.invariant_of-self-2
invariant_of-self-2 g c =
    let K = g.K.Keeper in
    some_turned K.works K.keeps K.outlasts (record { run = c.self.inside.engine; lines = c.self.inside.lines }) c.turn_all.new.self c.args.inputs.items c.args.now c.in-Ok-turn_all.results (all_plain c.args.inputs.items c.requires) c.in-Ok-turn_all.ensures.turned
    c.deliver_all.new.lines c.deliver_all.ensures.put c.turn_all.ensures.worked c.number.ensures.counted c.self.invariant

pub returns-clause-turned : goal.returns-clause-turned
returns-clause-turned g c =
    let K = g.K.Keeper in
    let is = c.of.ensures ∙ c.deliver_all.ensures.turned ∙ ap (λ l. l ++ map turned_of c.in-Ok-turn_all.results) c.in-Ok.ensures.items in
    subst (λ x. AreTurned c.args.inputs.items c.of.result c.args.now x.run.server c.turn_all.new.self.server x.lines c.deliver_all.new.lines) c.self.view_is
    (subst (λ ts. AreTurned c.args.inputs.items ts c.args.now c.self.inside.engine.server c.turn_all.new.self.server c.self.inside.lines c.deliver_all.new.lines) (sym is)
    (are_turned K.works K.keeps K.outlasts (record { run = c.self.inside.engine; lines = c.self.inside.lines }) c.turn_all.new.self c.args.inputs.items c.args.now c.in-Ok-turn_all.results (all_plain c.args.inputs.items c.requires) c.in-Ok-turn_all.ensures.turned
    c.deliver_all.new.lines c.deliver_all.ensures.put c.self.invariant))

pub returns-clause-stands : goal.returns-clause-stands
returns-clause-stands g c =
    let K = g.K.Keeper in
    let is = c.of.ensures ∙ c.deliver_all.ensures.turned ∙ ap (λ l. l ++ map turned_of c.in-Ok-turn_all.results) c.in-Ok.ensures.items in
    subst (λ x. (histories : Histories) → Stands K.works K.keeps histories x → TurnsStand K.works K.keeps K.outlasts c.args.inputs.items c.args.now x (record { run = c.turn_all.new.self; lines = c.deliver_all.new.lines }) histories c.of.result) c.self.view_is
    (λ histories stands.
    subst (TurnsStand K.works K.keeps K.outlasts c.args.inputs.items c.args.now (record { run = c.self.inside.engine; lines = c.self.inside.lines }) (record { run = c.turn_all.new.self; lines = c.deliver_all.new.lines }) histories) (sym is)
    (turns_stand K.works K.keeps K.outlasts (record { run = c.self.inside.engine; lines = c.self.inside.lines }) c.turn_all.new.self c.args.inputs.items c.args.now c.in-Ok-turn_all.results (all_plain c.args.inputs.items c.requires) c.in-Ok-turn_all.ensures.turned
    c.deliver_all.new.lines c.deliver_all.ensures.put c.turn_all.ensures.worked c.number.ensures.counted histories stands))

pub returns-clause-marks : goal.returns-clause-marks
returns-clause-marks g c =
    subst (λ x. StayMarked x.lines c.deliver_all.new.lines) c.self.view_is (delivered_marks c.in-Ok-turn_all.results c.self.inside.lines c.deliver_all.new.lines c.deliver_all.ensures.put)
