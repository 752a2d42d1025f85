-- the number is the offset past the first one, and stands among numbers
use Rattle.std.proofs.Common.{◌+◌, sym, ◌∙◌, ap, arith}
use Rattle.std.specs.List.{slice_get}
use Rattle.pres_ids.specs.Numbers.{IsNumber}
use Rattle.pres_retry.specs.Offsets.{offsets_of, numbers_from}
use Rattle.pres_retry.proofs.Offsets.{some_where, number_of, is_number}
use Rattle.pres_retry.proofs.shelf.Shelf.get.Goals as goal

pub overflow_add-self-inside : goal.overflow_add-self-inside
overflow_add-self-inside c =
    let inside = c.self.inside in
    let here = number_of inside.start (offsets_of inside.offsets) c.args.place c.in_ok-offset.offset (sym c.in_ok-offset.ensures) in
    let number = is_number (numbers_from inside.start inside.offsets) c.args.place (inside.start + c.in_ok-offset.offset) c.self.invariant here in
    omega (arith, number.1)

pub returns : goal.returns
returns c =
    let inside = c.self.inside in
    let n = inside.start + c.in_ok-offset.offset in
    let here = number_of inside.start (offsets_of inside.offsets) c.args.place c.in_ok-offset.offset (sym c.in_ok-offset.ensures) in
    let number = is_number (numbers_from inside.start inside.offsets) c.args.place n c.self.invariant here in
    some_where c.new.result (IsNumber n) n c.new.ensures number ∙ sym here ∙ ap (λ numbers. slice_get numbers c.args.place) c.self.view_is
