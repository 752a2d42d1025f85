-- the answer at the place is the first of those that are left
use Rattle.std.proofs.Common.{length, sym, ◌∙◌, ap, arith}
use Rattle.std.proofs.lemmas.Option.{slice_get_within}
use Rattle.pres_retry.specs.Verdicts.{lent_row}
use Rattle.pres_retry.proofs.Shelves.{left_next, left_none}
use Rattle.pres_retry.proofs.answers.AnswersIterIterator.next.Goals as goal

pub returns-in_default-clause-steps : goal.returns-in_default-clause-steps
returns-in_default-clause-steps c =
    let none = sym c.self.view_is ∙ left_none c.self.inside.answers.now c.self.inside.place c.in_default.ensures.answer in
    (none, none)

pub overflow_add-self : goal.overflow_add-self
overflow_add-self c =
    let within = slice_get_within c.self.inside.answers.now c.self.inside.place (lent_row c.in-Some.answer) (sym c.in-Some.ensures.answer) in
    omega (arith, within, c.in-Some.ensures.few)

pub returns-clause-steps : goal.returns-clause-steps
returns-clause-steps c = sym c.self.view_is ∙ left_next c.self.inside.answers.now c.self.inside.place (lent_row c.in-Some.answer) c.in-Some.ensures.answer

pub returns-clause-goes : goal.returns-clause-goes
returns-clause-goes c =
    let shorter = ap length (sym c.self.view_is ∙ left_next c.self.inside.answers.now c.self.inside.place (lent_row c.in-Some.answer) c.in-Some.ensures.answer) in
    record { on = λ _. (tt, tt, omega (arith, shorter)); keeps = tt; rests = λ _. tt }
