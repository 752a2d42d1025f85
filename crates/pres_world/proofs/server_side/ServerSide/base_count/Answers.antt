use Rattle.std.proofs.Common.{sym, ◌∙◌, ap}
use Rattle.pres_base.specs.declared.parts.BaseParts.{BaseParts}
use Rattle.pres_world.specs.ServerSides.{ServerSideState, base_sum}
use Rattle.pres_world.proofs.Held.{holds_seen}
use Rattle.pres_world.proofs.Bases.{count_within}
use Rattle.pres_world.proofs.server_side.ServerSide.base_count.Goals as goal

pub returns-in-Some-clause-within : goal.returns-in-Some-clause-within
returns-in-Some-clause-within c =
    let inside = c.self.inside in
    count_within c.args.self.now c.get.result (holds_seen c.args.self.now inside.history.items (base_sum inside.base) inside.server inside.downs.items c.self.view_is c.self.invariant)
    (c.get.ensures.value
    ∙ ap (λ (b : BaseParts). b.batches) c.parts.ensures.parts
    ∙ ap (λ o. (base_sum o).batches) (sym c.in-Some.is)
    ∙ ap (λ (w : ServerSideState). w.base.batches) c.self.view_is)
