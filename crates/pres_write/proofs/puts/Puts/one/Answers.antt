use Rattle.std.proofs.Common.{◌≡◌, ◌∷◌, ◌++◌, [], sym, ap, subst, ◌∙◌}
use Rattle.pres_write.specs.Unconditionals.{ArePuts}
use Rattle.pres_write.proofs.Putting.{one_put}
use Rattle.pres_write.proofs.puts.Puts.one.Goals as goal

pub invariant_of-result : goal.invariant_of-result
invariant_of-result c =
    let is : c.push.new.self.items ≡ c.args.placement ∷ [] = c.in_ok-push.ensures.items ∙ ap (λ ps. ps ++ c.args.placement ∷ []) c.new-placements.ensures.items in
    subst ArePuts (sym is) (one_put c.args.placement)
