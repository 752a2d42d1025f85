use Rattle.std.proofs.Common.{rules, is_lt}
use Rattle.std.proofs.lemmas.List.Sorted.{answers_always}
use Rattle.pres_tree.specs.Falls.{path_total}
use Rattle.pres_tree.specs.Paths.{Path, path_cmp}
use Rattle.pres_base.proofs.Answered.{in_order_itself}
use Rattle.pres_base.proofs.check.are_places_in_order.Goals as goal

pub returns : goal.returns
returns c =
    in_order_itself path_cmp path_total c.args.places.now c.is_sorted_by.result (c.is_sorted_by.ensures.cases (λ a b. is_lt (path_cmp a b)) (answers_always _ _ _ (λ f a r g h. search rules)))
