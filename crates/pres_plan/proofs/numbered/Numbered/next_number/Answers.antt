use Rattle.std.proofs.Common.{◌∙◌, ◌-◌, ap, length}
use Rattle.std.proofs.Common.{subst}
use Rattle.std.specs.List.Sorted.{IsStrictlySortedBy}
use Rattle.std.specs.Map.{keys_of}
use Rattle.std.specs.Ordering.{nat_cmp}
use Rattle.std.specs.List.{slice_get}
use Rattle.pres_plan.proofs.Searches.{after_last}
use Rattle.pres_plan.proofs.numbered.Numbered.next_number.Goals as goal

pub returns-in-Some : goal.returns-in-Some
returns-in-Some c =
    let is = c.deref.ensures.value ∙ c.self.view_is in
    after_last c.checked_add.result c.in-Some.field-0.now c.args.self.now c.checked_add.ensures (subst (λ es. IsStrictlySortedBy nat_cmp (keys_of es)) c.self.view_is c.self.invariant)
    (c.in-Some.ensures.value ∙ ap (λ es. slice_get es (length es - 1)) is)
