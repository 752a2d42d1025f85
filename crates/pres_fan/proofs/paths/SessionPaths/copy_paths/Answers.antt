use Rattle.std.proofs.Common.{◌≡◌, sym, ◌∙◌, ap, subst, IfOk}
use Rattle.pres_fan.specs.Listeners.{paths_of}
use Rattle.pres_fan.specs.Sets.{keys_in}
use Rattle.pres_fan.proofs.Sets.{own_paths}
use Rattle.pres_fan.proofs.paths.SessionPaths.copy_paths.Goals as goal

pub returns-in-Some : goal.returns-in-Some
returns-in-Some c =
    let s = c.args.session.now in
    subst (λ ps. IfOk c.copy_set.result (λ made. made.items ≡ ps))
    (ap keys_in c.in-Some.ensures.value ∙ sym (own_paths s c.self.inside.sets.entries c.self.invariant.0) ∙ ap (paths_of s) c.self.view_is)
    c.copy_set.ensures

pub returns-in-None : goal.returns-in-None
returns-in-None c =
    let s = c.args.session.now in
    c.new.ensures.items
    ∙ ap keys_in c.in-None.ensures.value
    ∙ sym (own_paths s c.self.inside.sets.entries c.self.invariant.0)
    ∙ ap (paths_of s) c.self.view_is
