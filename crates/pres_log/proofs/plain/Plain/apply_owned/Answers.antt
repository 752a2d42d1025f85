use Rattle.std.proofs.Common.{◌≡◌, ℕ, [], ◌+◌, max, ◌∙◌, sym, ap, subst}
use Rattle.pres_tree.specs.declared.scalar.Scalar.{Scalar}
use Rattle.pres_tree.specs.Rows.{Rows, IsValue}
use Rattle.pres_write.specs.Basics.{applied}
use Rattle.pres_write.specs.Outcomes.{writes_in, resolved}
use Rattle.pres_write.proofs.Applied.{applied_nothing}
use Rattle.pres_log.specs.Plains.{PlainState, state_after}
use Rattle.pres_log.proofs.plain.Plain.apply_owned.Goals as goal
use Rattle.std.proofs.Common.{arith}
use Rattle.std.proofs.lemmas.Grind.{common_steps}

pub returns-in-Ok-apply_all-clause-ok : goal.returns-in-Ok-apply_all-clause-ok
returns-in-Ok-apply_all-clause-ok c =
    let log = c.self.inside in
    let number : c.in-Some.number ≡ log.count + 1 = c.in-Some.ensures.1 in
    let outcome = c.in-Ok.ensures.outcome ∙ ap (λ m. resolved log.tree m c.args.op) c.max-moment.ensures in
    let state : ℕ → Rows Scalar → PlainState = λ m t. record { number = log.count + 1; moment = m; tree = t } in
    let writes : c.in-Wrote.writes ≡ writes_in (resolved log.tree (max log.moment c.args.now) c.args.op) = ap writes_in (sym c.in-Wrote.is ∙ outcome) in
    c.reach.ensures
    ∙ (λ i. record { number = number i; moment = c.max-moment.result; tree = c.apply_all.new.tree })
    ∙ ap (λ m. state m c.apply_all.new.tree) c.max-moment.ensures
    ∙ ap (state (max log.moment c.args.now)) (c.in-Ok-apply_all.ensures.ok ∙ ap (applied log.tree) writes)
    ∙ ap (λ s. state_after s c.args.op c.args.now) c.self.view_is

pub returns-in-Stale-clause-ok : goal.returns-in-Stale-clause-ok
returns-in-Stale-clause-ok c =
    let log = c.args.self.now in
    let inside = c.self.view_is in
    let number : c.in-Some.number ≡ log.number + 1 = c.in-Some.ensures.1 ∙ ap (λ (s : PlainState). s.number + 1) inside in
    let moment : c.max-moment.result ≡ max log.moment c.args.now = c.max-moment.ensures ∙ ap (λ (s : PlainState). max s.moment c.args.now) inside in
    let outcome = c.in-Ok.ensures.outcome ∙ (λ i. resolved ((inside i).tree) (moment i) c.args.op) in
    let none : [] ≡ writes_in (resolved log.tree (max log.moment c.args.now) c.args.op) = ap writes_in (sym c.in-Stale.is ∙ outcome) in
    let value : IsValue log.tree = subst (λ (s : PlainState). IsValue s.tree) inside c.is_empty.ensures.value in
    let state : ℕ → Rows Scalar → PlainState = λ m t. record { number = log.number + 1; moment = m; tree = t } in
    c.reach-in-Stale.ensures
    ∙ (λ i. record { number = number i; moment = c.max-moment.result; tree = log.tree })
    ∙ ap (λ m. state m log.tree) moment
    ∙ ap (state (max log.moment c.args.now)) (sym (applied_nothing log.tree value) ∙ ap (applied log.tree) none)

pub returns-in-Ok-apply_all-clause-answer : goal.returns-in-Ok-apply_all-clause-answer
returns-in-Ok-apply_all-clause-answer c = grind (arith, common_steps)

pub returns-in-Stale-clause-answer : goal.returns-in-Stale-clause-answer
returns-in-Stale-clause-answer c = grind (arith, common_steps)
