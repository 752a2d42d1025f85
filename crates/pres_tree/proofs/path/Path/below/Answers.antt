use Rattle.std.proofs.Common.{◌≡◌, ◌++◌, sym, subst}
use Rattle.pres_tree.specs.Paths.{IsPath}
use Rattle.pres_tree.proofs.Found.{IsRest, rest_is}
use Rattle.pres_tree.proofs.Texts.{path_rest}
use Rattle.pres_tree.proofs.path.Path.below.Goals as goal

pub invariant_of-result : goal.invariant_of-result
invariant_of-result c =
    let p = c.deref.result.now in
    let x = c.deref-2.result.now in
    let q = c.in-Some.keys.now in
    let is : x ≡ p ++ q = subst (IsRest p x) (sym c.in-Some.ensures.rest) (rest_is p x) in
    let whole : IsPath x = subst IsPath (sym c.deref-2.ensures.value) c.other.invariant in
    subst IsPath (sym c.in_ok-copies-in-Some.ensures) (path_rest p q (subst IsPath is whole))
