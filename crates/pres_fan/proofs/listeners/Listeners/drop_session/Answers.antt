use Rattle.std.proofs.Common.{List, not, sym, subst}
use Rattle.pres_ids.specs.Ids.{same_session}
use Rattle.pres_fan.specs.declared.listeners.Listener.{Listener}
use Rattle.pres_fan.proofs.Places.{filtered_listeners}
use Rattle.pres_fan.proofs.Held.{AreHeld, heard_dropped, nobody_dropped}
use Rattle.pres_fan.proofs.listeners.Listeners.drop_session.Goals as goal

pub invariant_of-self : goal.invariant_of-self
invariant_of-self c =
    let t = c.args.session.now in
    let ls = c.self.inside.paths in
    let new = c.remove_all.new.root in
    subst (λ (ms : List Listener). AreHeld ms new) (sym c.in-Some.ensures.left) (
      filtered_listeners (λ l. not (same_session t l.session)) ls c.self.invariant.0,
      heard_dropped t c.in-Some.paths.keys ls c.self.inside.root new c.in-Some.ensures.paths c.self.invariant.1 c.remove_all.ensures.left c.remove_all.ensures.tidy,
    )

pub invariant_of-self-in_default : goal.invariant_of-self-in_default
invariant_of-self-in_default c =
    let t = c.args.session.now in
    let ls = c.self.inside.paths in
    subst (λ (ms : List Listener). AreHeld ms c.self.inside.root) (sym c.in_default.ensures.left) (
      filtered_listeners (λ l. not (same_session t l.session)) ls c.self.invariant.0,
      nobody_dropped t ls c.self.inside.root c.in_default.ensures.paths c.self.invariant.1,
    )
