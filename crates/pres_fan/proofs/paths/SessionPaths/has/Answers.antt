use Rattle.std.proofs.Common.{sym, ◌∙◌, ap}
use Rattle.std.specs.List.{list_any}
use Rattle.pres_fan.specs.Listeners.{listener_of, same_listener}
use Rattle.pres_fan.proofs.Sets.{in_found, member}
use Rattle.pres_fan.proofs.paths.SessionPaths.has.Goals as goal

pub returns-in-Some : goal.returns-in-Some
returns-in-Some c =
    let k = listener_of c.args.session.now c.args.path.now in
    c.contains.ensures
    ∙ ap (λ x. in_found x c.args.path.now) c.in-Some.ensures.value
    ∙ sym (member k c.self.inside.sets.entries c.self.invariant.0)
    ∙ ap (list_any (same_listener k)) c.self.view_is

pub returns-in-None : goal.returns-in-None
returns-in-None c =
    let k = listener_of c.args.session.now c.args.path.now in
    ap (λ x. in_found x c.args.path.now) c.in-None.ensures.value
    ∙ sym (member k c.self.inside.sets.entries c.self.invariant.0)
    ∙ ap (list_any (same_listener k)) c.self.view_is
