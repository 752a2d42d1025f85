use Rattle.std.proofs.Common.{◌∙◌, ap, sym, subst, ◌++◌}
use Rattle.pres_server.specs.InternalPushes.{standing, after_pushes, pushes, MayPushAll}
use Rattle.pres_server.proofs.Pushed.{stands_after, pushed_next}
use Rattle.pres_server.proofs.push.push_all.Goals as goal
use Rattle.std.proofs.Common.{arith}
use Rattle.std.proofs.lemmas.Grind.{common_steps}

pub loop-reached-preserved : goal.loop-reached-preserved
loop-reached-preserved c =
    let k = c.in-Some.ensures.steps.0 in
    let before = c.loop-reached.invariant in
    let old = c.loop-reached.places in
    let rest = c.next.new.self.rest.items in
    let z = c.args.z in
    let tree = c.args.tree.now in
    let s = stands_after c.in-Some.reached old c.push.new.places c.in_ok-push.ensures.live in (
      subst (λ f. MayPushAll f rest) (sym s) (subst (MayPushAll (standing old)) k before.0).1,
      (λ d. ap (λ f. after_pushes f rest d) s ∙ sym (ap (λ l. after_pushes (standing old) l d) k) ∙ before.1 d),
      c.in_ok-push.ensures.gone ∙ before.2,
      ap (λ f. c.push-in-loop-reached.new.self.items ++ pushes z tree f rest) s
          ∙ pushed_next z tree (standing old) c.in-Some.reached rest c.loop-reached.outs.items c.push-in-loop-reached.new.self.items c.in_ok-push.field-0 c.in_ok-push.ensures.message c.in_ok-push-2.ensures.items
          ∙ sym (ap (λ l. c.loop-reached.outs.items ++ pushes z tree (standing old) l) k)
          ∙ before.3,
    )

pub push-requires : goal.push-requires
push-requires c = grind (arith, common_steps)

pub returns-clause-messages : goal.returns-clause-messages
returns-clause-messages c = grind (arith, common_steps)

pub returns-clause-live : goal.returns-clause-live
returns-clause-live c = grind (arith, common_steps)
