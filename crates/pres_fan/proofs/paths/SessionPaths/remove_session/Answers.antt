use Rattle.std.proofs.Common.{◌∙◌, ap, sym}
use Rattle.pres_fan.specs.Listeners.{paths_of, without_session}
use Rattle.pres_fan.specs.Sets.{keys_in}
use Rattle.pres_fan.proofs.Sets.{own_paths, without_paths, rest_in_order}
use Rattle.pres_fan.proofs.paths.SessionPaths.remove_session.Goals as goal

pub invariant_of-self : goal.invariant_of-self
invariant_of-self c = rest_in_order c.args.session.now c.self.inside.sets.entries _ c.self.invariant c.remove.ensures.ordered c.remove.ensures.entries

pub returns-clause-left : goal.returns-clause-left
returns-clause-left c =
    without_paths c.args.session.now c.self.inside.sets.entries _ c.self.invariant (invariant_of-self c) c.remove.ensures.updates.0
    ∙ ap (without_session c.args.session.now) c.self.view_is

pub returns-clause-paths : goal.returns-clause-paths
returns-clause-paths c =
    ap keys_in c.remove.ensures.value
    ∙ sym (own_paths c.args.session.now c.self.inside.sets.entries c.self.invariant.0)
    ∙ ap (paths_of c.args.session.now) c.self.view_is
