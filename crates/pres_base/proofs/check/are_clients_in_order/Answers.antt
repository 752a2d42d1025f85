use Rattle.std.proofs.Common.{rules, is_lt}
use Rattle.std.proofs.lemmas.List.Sorted.{answers_always}
use Rattle.std.specs.Cmp.Lexicographic.{nat_list_cmp_total}
use Rattle.pres_ids.specs.Ids.{client_cmp}
use Rattle.pres_base.specs.declared.parts.ClientPart.{ClientPart}
use Rattle.pres_base.proofs.Answered.{in_order}
use Rattle.pres_base.proofs.check.are_clients_in_order.Goals as goal

pub returns : goal.returns
returns c =
    in_order client_cmp nat_list_cmp_total (λ (c : ClientPart). c.id) c.args.clients.now c.is_sorted_by.result (c.is_sorted_by.ensures.cases (λ a b. is_lt (client_cmp a.id b.id)) (answers_always _ _ _ (λ f a r g h. search rules)))
