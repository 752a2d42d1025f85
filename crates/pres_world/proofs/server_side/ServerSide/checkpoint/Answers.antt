use Rattle.std.proofs.Common.{◌≡◌, ◌∙◌, ap}
use Rattle.pres_world.specs.ServerSides.{base_sum}
use Rattle.pres_world.proofs.Held.{kept_view, kept_holds}
use Rattle.pres_world.proofs.server_side.ServerSide.checkpoint.Goals as goal

-- the kept base's sum is the server's
same : (c : goal.After-drop) → base_sum c.replace.new.self ≡ c.in-Some.server.sum
same c = ap base_sum c.replace.ensures.after ∙ c.in-Ok.ensures.base

pub invariant_of-self : goal.invariant_of-self
invariant_of-self c = kept_holds c.self.inside.history.items (base_sum c.self.inside.base) (base_sum c.replace.new.self) c.self.inside.server c.in-Some.server c.self.invariant c.in-Some.is (same c)

pub returns-clause-ok : goal.returns-clause-ok
returns-clause-ok c =
    let inside = c.self.inside in
    kept_view c.args.self.now inside.history.items (base_sum inside.base) (base_sum c.replace.new.self) inside.server inside.downs.items c.in-Some.server c.self.view_is c.self.invariant c.in-Some.is (same c)
