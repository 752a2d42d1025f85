use Rattle.std.proofs.Common.{refl, sym, subst, OnOk}
use Rattle.std.proofs.lemmas.Result.{on_ok_weaker}
use Rattle.pres_world.specs.declared.event.Event.TheVariants as event
use Rattle.pres_world.specs.Worlds.{World, IsStep}
use Rattle.pres_world.proofs.world.World.step.Goals as goal

pub returns-in-RestartServer-clause-ok : goal.returns-in-RestartServer-clause-ok
returns-in-RestartServer-clause-ok c =
    let inside = c.self-in-RestartServer.inside in
    let old : World = record { serving = inside.serving; clients = inside.members; ups = inside.ups.items; acks = inside.acks.items } in
    let new : World = record old { serving = c.restart.new.self } in
    subst (λ e. OnOk c.restart.result (IsStep c.args.self.now e new)) (sym c.in-RestartServer.is)
    (subst (λ w. OnOk c.restart.result (IsStep w (event.RestartServer c.in-RestartServer.now) new)) c.self-in-RestartServer.view_is
    (on_ok_weaker c.restart.result (λ h. (c.restart.new.self, h, refl)) c.restart.ensures.ok))
