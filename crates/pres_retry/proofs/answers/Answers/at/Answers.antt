-- the row at the place is of the number there, and of what is kept for the write
use Rattle.std.proofs.Common.{◌≡◌, ◌+◌, Some, None, sym, ◌∙◌, ap, arith}
use Rattle.std.specs.List.{slice_get}
use Rattle.std.proofs.lemmas.Option.{slice_get_within}
use Rattle.pres_retry.specs.Shelves.{numbers_in, kept_at, kept_by}
use Rattle.pres_retry.specs.Tables.{row}
use Rattle.pres_retry.specs.Verdicts.{lent_kept}
use Rattle.pres_write.specs.declared.outcome.Kept.TheVariants as kept
use Rattle.pres_retry.proofs.Shelves.{answer_at, answers_few}
use Rattle.pres_retry.proofs.answers.Answers.at.Goals as goal
use Rattle.pres_retry.proofs.answers.Answers.at.Goals.{in-Some, in-None}

pub returns-in_err-done-clause-answer : goal.returns-in_err-done-clause-answer
returns-in_err-done-clause-answer c =
    let inside = c.self.inside in
    let found = c.in_err-done.ensures ∙ ap (λ full. slice_get (numbers_in full inside.last) c.args.place) c.as_slice.ensures.value in
    rw c.from_residual.ensures (answer_at inside.full.items inside.last inside.stale.entries c.args.self.now c.self.view_is c.args.place None found)

pub returns-in_err-done-clause-few : goal.returns-in_err-done-clause-few
returns-in_err-done-clause-few c =
    let inside = c.self.inside in
    answers_few inside.full.items inside.last inside.stale.entries c.args.self.now c.self.view_is c.self.invariant

pub overflow_add-place : goal.overflow_add-place
overflow_add-place c =
    let inside = c.self.inside in
    let found = c.in_ok-done.ensures ∙ ap (λ full. slice_get (numbers_in full inside.last) c.args.place) c.as_slice.ensures.value in
    let within = slice_get_within (numbers_in inside.full.items inside.last) c.args.place c.in_ok-done.done (sym found) in
    omega (arith, within, c.self.invariant.few)

pub returns-clause-answer : goal.returns-clause-answer
returns-clause-answer c =
    let inside = c.self.inside in
    let stale = inside.stale.entries in
    let found = c.in_ok-done.ensures ∙ ap (λ full. slice_get (numbers_in full inside.last) c.args.place) c.as_slice.ensures.value in
    let lent : lent_kept c.match-get.kept ≡ kept_at (c.args.place + 1) stale =
    elim c.match-get.branch [
      | in-Some w ↦ ap lent_kept w.kept-is ∙ ap (λ held. kept.Stale held) w.as_ref.ensures.value ∙ ap kept_by w.in-Some.ensures.value
      | in-None w ↦ ap lent_kept w.kept-is ∙ ap kept_by w.in-None.ensures.value
    ] in
    ap (λ k. Some (row c.in_ok-done.done k)) lent
    ∙ answer_at inside.full.items inside.last stale c.args.self.now c.self.view_is c.args.place (Some c.in_ok-done.done) found

pub returns-clause-few : goal.returns-clause-few
returns-clause-few c =
    let inside = c.self.inside in
    answers_few inside.full.items inside.last inside.stale.entries c.args.self.now c.self.view_is c.self.invariant
