-- the number at the place is that of its offset
use Rattle.std.proofs.Common.{◌+◌, ◌++◌, [], ◌∷◌, sym, ◌∙◌, ap, arith}
use Rattle.pres_retry.specs.Offsets.{offsets_of, numbers_from}
use Rattle.pres_retry.proofs.Offsets.{number_of, is_number, numbers_so_far}
use Rattle.pres_retry.proofs.shelf.in_eight_bytes.Goals as goal

pub overflow_add-start : goal.overflow_add-start
overflow_add-start c =
    let offsets = offsets_of c.args.offsets.now in
    let here = number_of c.args.start offsets c.loop-place.place c.in-Some.offset (sym c.in-Some.ensures) in
    let number = is_number (numbers_from c.args.start c.args.offsets.now) c.loop-place.place (c.args.start + c.in-Some.offset) c.requires here in
    omega (arith, number.1)

pub loop-place-preserved : goal.loop-place-preserved
loop-place-preserved c =
    let offsets = offsets_of c.args.offsets.now in
    c.in_ok-push.ensures.items
    ∙ ap (λ numbers. numbers ++ (c.args.start + c.in-Some.offset) ∷ []) c.loop-place.invariant
    ∙ sym (numbers_so_far c.args.start offsets c.loop-place.place c.in-Some.offset (sym c.in-Some.ensures))
