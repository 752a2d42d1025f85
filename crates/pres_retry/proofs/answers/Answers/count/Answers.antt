-- there are as many rows as numbers
use Rattle.std.proofs.Common.{length, ◌∙◌, ap}
use Rattle.pres_retry.specs.Shelves.{numbers_in}
use Rattle.pres_retry.proofs.Shelves.{answers_counted}
use Rattle.pres_retry.proofs.answers.Answers.count.Goals as goal

pub returns : goal.returns
returns c =
    let inside = c.self.inside in
    c.in-Some.ensures.1
    ∙ c.count_in.ensures
    ∙ ap (λ full. length (numbers_in full inside.last)) c.as_slice.ensures.value
    ∙ answers_counted inside.full.items inside.last inside.stale.entries c.args.self.now c.self.view_is
