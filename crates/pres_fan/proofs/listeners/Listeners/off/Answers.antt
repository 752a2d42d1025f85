use Rattle.std.proofs.Common.{◌≡◌, ◌&&◌, List, not, sym, subst}
use Rattle.pres_tree.specs.Paths.{Path}
use Rattle.pres_ids.specs.declared.id.SessionId.{SessionId}
use Rattle.pres_fan.specs.declared.listeners.Listener.{Listener}
use Rattle.pres_fan.specs.Levels.{heard}
use Rattle.pres_fan.specs.Listeners.{listener_of, same_listener}
use Rattle.pres_fan.proofs.Places.{filtered_listeners}
use Rattle.pres_fan.proofs.Held.{AreHeld, heard_without}
use Rattle.pres_fan.proofs.listeners.Listeners.off.Goals as goal

pub invariant_of-self : goal.invariant_of-self
invariant_of-self c =
    let t = c.args.session.now in
    let q = c.args.path.now in
    let ls = c.self.inside.paths in
    let old = c.self.inside.root in
    let new = c.remove-2.new.self in
    let left = subst (λ ks. (p : Path) (s : SessionId) → heard p s new ≡ (not (same_listener (listener_of t ks) (listener_of s p)) && heard p s old)) c.keys.ensures.keys c.remove-2.ensures.left in
    subst (λ (ms : List Listener). AreHeld ms new) (sym c.remove.ensures.left)
    (filtered_listeners (λ l. not (same_listener (listener_of t q) l)) ls c.self.invariant.0, heard_without t q ls old new c.self.invariant.1 left c.remove-2.ensures.tidy)
