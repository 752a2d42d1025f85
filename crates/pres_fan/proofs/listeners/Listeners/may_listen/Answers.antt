use Rattle.std.proofs.Common.{sym, ◌∙◌, ap, length}
use Rattle.std.specs.Prelude.{nat_le, nat_lt}
use Rattle.pres_fan.specs.Listeners.{paths_of, with_listener}
use Rattle.pres_fan.proofs.Places.{again_fits, new_fits}
use Rattle.pres_fan.proofs.listeners.Listeners.may_listen.Goals as goal

pub returns-then-has-clause-room : goal.returns-then-has-clause-room
returns-then-has-clause-room c =
    let s = c.args.session.now in
    let p = c.args.path.now in
    c.if-has.true
    ∙ sym (again_fits s p c.self.inside.paths c.self.invariant.0 (sym c.has.ensures ∙ c.if-has.true))
    ∙ ap (λ ls. nat_le (length (paths_of s (with_listener s p ls))) 256) c.self.view_is

pub returns-else-has-clause-room : goal.returns-else-has-clause-room
returns-else-has-clause-room c =
    let s = c.args.session.now in
    let p = c.args.path.now in
    ap (λ n. nat_lt n 256) c.count.ensures
    ∙ new_fits s p c.self.inside.paths (sym c.has.ensures ∙ c.if-has.false)
    ∙ ap (λ ls. nat_le (length (paths_of s (with_listener s p ls))) 256) c.self.view_is
