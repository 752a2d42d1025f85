use Rattle.std.proofs.Common.{◌∙◌, ◌-◌, ap, subst, take, length}
use Rattle.std.specs.List.{slice_get}
use Rattle.std.specs.List.Sorted.{IsStrictlySortedBy}
use Rattle.std.specs.Map.{keys_of}
use Rattle.pres_tree.specs.Paths.{path_cmp}
use Rattle.pres_plan.specs.Places.{Spots}
use Rattle.pres_plan.proofs.Searches.{last_is, none_is}
use Rattle.pres_plan.proofs.places.Places.last_before.Goals as goal

pub returns-clause-some : goal.returns-clause-some
returns-clause-some c =
    let n = c.count_before.result in
    last_is c.args.path.now c.args.self.now n (subst (λ (es : Spots). IsStrictlySortedBy path_cmp (keys_of es)) c.self.view_is c.self.invariant) c.count_before.ensures.before c.count_before.ensures.after c.last.result
    (c.last.ensures.value ∙ ap (λ (es : Spots). slice_get (take n es) (length (take n es) - 1)) (c.deref.ensures.value ∙ c.self.view_is))

pub returns-clause-none : goal.returns-clause-none
returns-clause-none c =
    let n = c.count_before.result in
    none_is c.args.path.now c.args.self.now n (subst (λ (es : Spots). IsStrictlySortedBy path_cmp (keys_of es)) c.self.view_is c.self.invariant) c.count_before.ensures.before c.count_before.ensures.after c.last.result
    (c.last.ensures.value ∙ ap (λ (es : Spots). slice_get (take n es) (length (take n es) - 1)) (c.deref.ensures.value ∙ c.self.view_is))
