use Rattle.std.proofs.Common.{sym, ◌∙◌, ap, length}
use Rattle.pres_fan.specs.Listeners.{paths_of}
use Rattle.pres_fan.specs.Sets.{keys_in}
use Rattle.pres_fan.proofs.Sets.{own_paths}
use Rattle.pres_fan.proofs.paths.SessionPaths.count.Goals as goal

pub returns-in-Some : goal.returns-in-Some
returns-in-Some c =
    let s = c.args.session.now in
    c.len.ensures.len
    ∙ sym (ap length (own_paths s c.self.inside.sets.entries c.self.invariant.0 ∙ ap keys_in (sym c.in-Some.ensures.value)))
    ∙ ap (λ ls. length (paths_of s ls)) c.self.view_is

pub returns-in-None : goal.returns-in-None
returns-in-None c =
    let s = c.args.session.now in
    sym (ap length (own_paths s c.self.inside.sets.entries c.self.invariant.0 ∙ ap keys_in (sym c.in-None.ensures.value)))
    ∙ ap (λ ls. length (paths_of s ls)) c.self.view_is
