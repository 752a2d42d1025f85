use Rattle.std.proofs.Common.{rules, ◌∙◌, ap, sym, subst, ◌≡◌, ◌++◌, ◌∷◌, append_assoc, IfOk}
use Rattle.pres_server.specs.ServerStates.{heard_after_all}
use Rattle.pres_server.specs.InternalIndex.{Tells}
use Rattle.pres_server.specs.Sums.{sum_after, sum_after_all}
use Rattle.pres_server.specs.SumAnswers.{answers_to_by, answers_by}
use Rattle.pres_server.specs.InternalSums.{Agrees, MayTakeFrom}
use Rattle.pres_server.proofs.Heard.{tells_after, tells_carried}
use Rattle.pres_server.proofs.SumSteps.{first_carries, rest_from, first_adds}
use Rattle.pres_server.proofs.index.+take_all.Goals as goal
use Rattle.std.proofs.Common.{arith}
use Rattle.std.proofs.lemmas.Grind.{common_steps}

pub take-requires : goal.take-requires
take-requires t c = first_carries c.requires.0 c.args.made.number c.args.made.moment c.args.entries.now c.in-Some.first.now c.in-Some.rest.now c.args.index.now c.in-Some.ensures.cases.0 c.requires.1

pub take_all-requires : goal.take_all-requires
take_all-requires t c =
    let sum = c.requires.0 in
    let first = c.in-Some.first.now in
    let rest = c.in-Some.rest.now in
    let taken = c.in_ok-take.ensures in
    let m = c.args.made.moment in (
      search rules,
      (
        sum_after first sum,
        subst (λ z. MayTakeFrom (sum_after first sum) z m rest c.take.new.self) (sym c.in-Some-next.ensures.1)
            (rest_from sum c.args.made.number m c.args.entries.now first rest c.args.index.now taken.between c.take.new.self c.in-Some.ensures.cases.0 c.requires.1 taken.carried taken.steps),
      ),
    )

pub returns-clause-agrees : goal.returns-clause-agrees
returns-clause-agrees t c = λ sum f.
    let first = c.in-Some.first.now in
    let rest = c.in-Some.rest.now in
    let m = c.args.made.moment in
    let k = c.in-Some.ensures.cases.0 in
    let taken = c.in_ok-take.ensures in
    let g = subst (λ z. MayTakeFrom (sum_after first sum) z m rest c.take.new.self) (sym c.in-Some-next.ensures.1) (rest_from sum c.args.made.number m c.args.entries.now first rest c.args.index.now taken.between c.take.new.self k f taken.carried taken.steps) in
    subst (λ l. IfOk c.take_all.result (λ x. Agrees c.take_all.new.index (sum_after_all l sum))) (sym k) (c.take_all.ensures.agrees (sum_after first sum) g)

pub returns-clause-heard : goal.returns-clause-heard
returns-clause-heard t c = λ heard h.
    let first = c.in-Some.first.now in
    let taken = c.in_ok-take.ensures in
    subst (λ l. IfOk c.take_all.result (λ x. Tells (heard_after_all c.args.made.moment l heard) c.take_all.new.index)) (sym c.in-Some.ensures.cases.0)
    (c.take_all.ensures.heard _ (tells_after c.args.made.number c.args.made.moment taken.between c.take.new.self first heard (tells_carried _ c.args.index.now taken.between heard h taken.carried) taken.steps))

pub returns-clause-answers : goal.returns-clause-answers
returns-clause-answers t c = λ sum f.
    let first = c.in-Some.first.now in
    let rest = c.in-Some.rest.now in
    let m = c.args.made.moment in
    let k = c.in-Some.ensures.cases.0 in
    let taken = c.in_ok-take.ensures in
    let g = subst (λ z. MayTakeFrom (sum_after first sum) z m rest c.take.new.self) (sym c.in-Some-next.ensures.1) (rest_from sum c.args.made.number m c.args.entries.now first rest c.args.index.now taken.between c.take.new.self k f taken.carried taken.steps) in
    let first_is : c.take.new.outs.items ≡ c.args.outs.now.items ++ answers_to_by sum first =
    first_adds sum c.args.entries.now first rest c.args.index.now c.take.new.self c.args.made c.args.outs.now.items c.take.new.outs.items k f taken in
    subst (λ l. IfOk c.take_all.result (λ x. c.take_all.new.outs.items ≡ l))
    (ap (λ l. l ++ answers_by (sum_after first sum) rest) first_is
    ∙ append_assoc c.args.outs.now.items (answers_to_by sum first) (answers_by (sum_after first sum) rest)
    ∙ ap (λ l. c.args.outs.now.items ++ answers_by sum l) (sym k))
    (c.take_all.ensures.answers (sum_after first sum) g)

pub returns-in_default-clause-heard : goal.returns-in_default-clause-heard
returns-in_default-clause-heard t c = grind (arith, common_steps)

pub returns-in_default-clause-answers : goal.returns-in_default-clause-answers
returns-in_default-clause-answers t c = grind (arith, common_steps)

pub returns-in_default-clause-agrees : goal.returns-in_default-clause-agrees
returns-in_default-clause-agrees t c = grind (arith, common_steps)
