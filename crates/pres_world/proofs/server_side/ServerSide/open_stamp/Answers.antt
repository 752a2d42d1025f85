use Rattle.std.proofs.Common.{ap, sym}
use Rattle.pres_world.specs.ServerSides.{ServerSideState, base_sum}
use Rattle.pres_world.proofs.Held.{open_found}
use Rattle.pres_world.proofs.server_side.ServerSide.open_stamp.Goals as goal

pub returns : goal.returns
returns c =
    open_found c.self.inside.history.items (base_sum c.self.inside.base) c.self.inside.server c.args.self.now.server c.in_ok-as_ref.field-0.now c.args.client.now c.open_stamp.result c.self.invariant
    (sym c.in_ok-as_ref.ensures.value) (ap (λ (w : ServerSideState). w.server) c.self.view_is) c.open_stamp.ensures
