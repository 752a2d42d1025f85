-- the number is in its full shelf, or past all of them in the last one
use Rattle.std.proofs.Common.{◌≡◌, ◌+◌, ◌*◌, ◌/◌, ◌%◌, ◌<◌, ◌≤◌, Some, length, sym, ◌∙◌, ap, arith}
use Rattle.std.specs.List.{slice_get}
use Rattle.pres_retry.specs.Shelves.{numbers_in}
use Rattle.pres_retry.proofs.Shelves.{item_is, number_within, number_past}
use Rattle.pres_retry.proofs.answers.number_at.Goals as goal

pub returns-in-Some : goal.returns-in-Some
returns-in-Some c =
    let full = c.args.full.now in
    let last = c.args.last.now in
    let place = c.args.place in
    let has = sym (item_is full (place / 1024) (Some c.in-Some.shelf) c.in-Some.ensures.lookup) in
    let below : place % 1024 < 1024 = omega arith in
    let is : place / 1024 * 1024 + place % 1024 ≡ place = omega arith in
    c.get-in-Some.ensures
    ∙ sym (number_within 1024 full last (place / 1024) (place % 1024) c.in-Some.shelf.now c.requires has below)
    ∙ ap (slice_get (numbers_in full last)) is

pub returns : goal.returns
returns c =
    let full = c.args.full.now in
    let last = c.args.last.now in
    let place = c.args.place in
    let none : length full ≤ place / 1024 = c.in_default.ensures.lookup.3 in
    let past : length full * 1024 ≤ place = omega (arith, none) in
    c.get-2.ensures ∙ sym (number_past 1024 full last place c.requires past)
