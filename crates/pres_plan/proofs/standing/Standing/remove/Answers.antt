use Rattle.std.proofs.Common.{sym, ◌∙◌, ap}
use Rattle.pres_plan.specs.Standing.{numbers_at}
use Rattle.pres_plan.proofs.Numbers.{has}
use Rattle.pres_plan.proofs.Spots.{forgot_tells, looked_has, none_taken}
use Rattle.pres_plan.proofs.standing.Standing.remove.Goals as goal

pub returns-clause-tells : goal.returns-clause-tells
returns-clause-tells c =
    let n = c.args.number in
    let before = c.args.self.now.rows in
    forgot_tells n c.path.result.now before c.remove.new.self c.args.self.now.places c.forget.new.self c.in-Some.ensures.ordered
    (ap (λ y. has n y before) c.path.ensures ∙ looked_has n c.in-Some.row before (sym c.in-Some.ensures.row))
    c.in-Some.ensures.left c.requires.tells c.forget.ensures.told

pub returns-in_default-clause-tells : goal.returns-in_default-clause-tells
returns-in_default-clause-tells c = λ q.
    c.requires.tells q
    ∙ ap (numbers_at q) (sym (c.in_default.ensures.left ∙ none_taken c.args.number c.args.self.now.rows (sym c.in_default.ensures.row)))
