use Rattle.std.proofs.Common.{◌≡◌, ◌∙◌, ◌++◌, sym, ap, refl, true, false, is_some, rules}
use Rattle.pres_world.specs.ServerSides.{ServerSideState, base_sum, fault_for}
use Rattle.pres_world.proofs.Held.{viewed, runs_holds, runs_view, fault_told, no_fault}
use Rattle.pres_world.proofs.server_side.ServerSide.refuse.Goals as goal

pub invariant_of-self-in_err-push : goal.invariant_of-self-in_err-push
invariant_of-self-in_err-push c =
    runs_holds c.self.inside.history.items c.args.self.now.history (base_sum c.self.inside.base) c.self.inside.server c.replace.new.self c.args.server c.self.invariant (ap (λ (w : ServerSideState). w.history) c.self.view_is) c.replace.ensures.after c.requires.sum

pub returns-in_ok-push-clause-ok : goal.returns-in_ok-push-clause-ok
returns-in_ok-push-clause-ok c =
    let before = ap (λ (w : ServerSideState). w.downs) c.self.view_is in
    let some : is_some c.args.session ≡ true = sym c.is_some.ensures ∙ c.if-is_some.true in
    let told : c.push.new.self.items ≡ c.args.self.now.downs ++ fault_for c.args.session c.args.code = c.in_ok-push.ensures.items ∙ (λ i. before i ++ fault_told c.args.session c.args.code some i) in
    runs_view c.self.inside.history.items c.args.self.now.history (base_sum c.self.inside.base) c.args.self.now.base c.replace.new.self c.args.server c.args.server c.push.new.self.items (c.args.self.now.downs ++ fault_for c.args.session c.args.code)
    (ap (λ (w : ServerSideState). w.history) c.self.view_is) (ap (λ (w : ServerSideState). w.base) c.self.view_is) c.replace.ensures.after refl told

pub invariant_of-self-else-is_some : goal.invariant_of-self-else-is_some
invariant_of-self-else-is_some c =
    runs_holds c.self.inside.history.items c.args.self.now.history (base_sum c.self.inside.base) c.self.inside.server c.replace.new.self c.args.server c.self.invariant (ap (λ (w : ServerSideState). w.history) c.self.view_is) c.replace.ensures.after c.requires.sum

pub invariant_of-self : goal.invariant_of-self
invariant_of-self c =
    runs_holds c.self.inside.history.items c.args.self.now.history (base_sum c.self.inside.base) c.self.inside.server c.replace.new.self c.args.server c.self.invariant (ap (λ (w : ServerSideState). w.history) c.self.view_is) c.replace.ensures.after c.requires.sum

pub invariant_of-self-else-is_some-2 : goal.invariant_of-self-else-is_some-2
invariant_of-self-else-is_some-2 c =
    runs_holds c.self.inside.history.items c.args.self.now.history (base_sum c.self.inside.base) c.self.inside.server c.replace.new.self c.args.server c.self.invariant (ap (λ (w : ServerSideState). w.history) c.self.view_is) c.replace.ensures.after c.requires.sum

pub returns-else-is_some-clause-ok : goal.returns-else-is_some-clause-ok
returns-else-is_some-clause-ok c =
    let before = ap (λ (w : ServerSideState). w.downs) c.self.view_is in
    let none : is_some c.args.session ≡ false = sym c.is_some.ensures ∙ c.if-is_some.false in
    let view =
    runs_view c.self.inside.history.items c.args.self.now.history (base_sum c.self.inside.base) c.args.self.now.base c.replace.new.self c.args.server c.args.server c.self.inside.downs.items (c.args.self.now.downs ++ fault_for c.args.session c.args.code)
    (ap (λ (w : ServerSideState). w.history) c.self.view_is) (ap (λ (w : ServerSideState). w.base) c.self.view_is) c.replace.ensures.after refl (before ∙ no_fault c.args.session c.args.code c.args.self.now.downs none) in
    let here : c.match-session.self ≡ viewed c.self.inside.history.items (base_sum c.self.inside.base) c.replace.new.self c.self.inside.downs.items = search rules in
    here ∙ view
