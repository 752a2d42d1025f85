-- what is left of numbers are numbers
use Rattle.std.proofs.Common.{◌-◌, All, length, take, sym, ◌∙◌, ap, subst}
use Rattle.pres_ids.specs.Numbers.{IsNumber}
use Rattle.std.proofs.lemmas.List.Elements.{All-take}
use Rattle.pres_retry.specs.Offsets.{offsets_of, numbers_from}
use Rattle.pres_retry.proofs.Offsets.{numbers_left}
use Rattle.pres_retry.proofs.shelf.Shelf.pop.Goals as goal

pub invariant_of-self : goal.invariant_of-self
invariant_of-self c =
    let inside = c.self.inside in
    let numbers = numbers_from inside.start inside.offsets in
    let left = numbers_left inside.start (offsets_of inside.offsets) (offsets_of c.pop.new.self) c.pop.ensures in
    subst (All IsNumber) (sym left) (All-take IsNumber (length numbers - 1) numbers c.self.invariant)

pub returns : goal.returns
returns c =
    let inside = c.self.inside in
    numbers_left inside.start (offsets_of inside.offsets) (offsets_of c.pop.new.self) c.pop.ensures
    ∙ ap (λ numbers. take (length numbers - 1) numbers) c.self.view_is
