use Rattle.std.proofs.Common.{◌∙◌, ap, sym, slice_index_or}
use Rattle.pres_hub.specs.CoreGroups.{AnswerState}
use Rattle.pres_hub.proofs.queue.take_answer.Goals as goal

pub returns : goal.returns
returns g c =
    let r = c.swap_remove-answer.result in
    ap (λ (a : AnswerState). a.seat.session) c.swap_remove-answer.ensures.value ∙ ap (λ l. (slice_index_or l c.in_ok-i.i r).seat.session) (sym c.as_slice.ensures.value) ∙ c.in_ok-i.ensures.own r
