use Rattle.std.proofs.Common.{◌≡◌, ◌++◌, ◌+◌, ◌≤◌, length, sym, ap, ◌∙◌, subst, arith}
use Rattle.std.proofs.lemmas.List.{take_all}
use Rattle.pres_tree.specs.Paths.{max_depth, IsPath}
use Rattle.pres_tree.proofs.Texts.{path_append}
use Rattle.pres_tree.proofs.path.Path.join.Goals as goal
use Rattle.std.proofs.lemmas.Grind.{common_steps}

pub invariant_of-result : goal.invariant_of-result
invariant_of-result c =
    let p = c.args.self.now in
    let q = c.args.other.now in
    let keys = c.deref-key-items.ensures.value ∙ c.other.view_is in
    let is : c.loop-key.keys.items ≡ p ++ q = c.loop-key.invariant ∙ ap (λ ks. p ++ ks) (take_all c.loop-key.key-index c.deref-key-items.result.now c.loop-key-test.false ∙ keys) in
    let low : length p + length q ≤ max_depth = omega (arith, c.if-len-gt-MAX_DEPTH.false, c.len.ensures, c.len-2.ensures, ap length c.self.view_is, ap length c.other.view_is) in
    subst IsPath (sym is) (path_append p q (subst IsPath c.self.view_is c.self.invariant) (subst IsPath c.other.view_is c.other.invariant) low)

pub returns-in_err-push-clause-deep : goal.returns-in_err-push-clause-deep
returns-in_err-push-clause-deep c = grind (arith, common_steps)

pub loop-key-preserved : goal.loop-key-preserved
loop-key-preserved c = grind (arith, common_steps)

pub returns-clause-path : goal.returns-clause-path
returns-clause-path c = grind (arith, common_steps)
