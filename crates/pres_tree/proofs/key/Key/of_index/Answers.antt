use Rattle.std.proofs.Common.{◌≡◌, true, sym, subst, ◌∙◌}
use Rattle.pres_tree.specs.Keys.{is_key}
use Rattle.pres_tree.proofs.Reading.{decimal_key}
use Rattle.pres_tree.proofs.key.Key.of_index.Goals as goal

pub invariant_of-result : goal.invariant_of-result
invariant_of-result c = subst (λ bs. is_key bs ≡ true) (sym (c.of.ensures ∙ c.in_ok-text.ensures.ok)) (decimal_key c.args.index c.ranges.index.fits)
