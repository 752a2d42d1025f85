use Rattle.std.proofs.Common.{rules, ◌∙◌, ap}
use Rattle.std.proofs.lemmas.Map.Made.{map_same_pairs}
use Rattle.pres_client_state.specs.Watches.{frozen, kept}
use Rattle.pres_client_state.proofs.watch.Watches.freeze.Goals as goal

pub returns : goal.returns
returns c =
    map_same_pairs _ (λ w. record w { shown = kept c.args.seen w.shown }) _ (λ k v b w f' t. search rules) _ _ c.retain.ensures.filtered
    ∙ ap (frozen c.args.seen) c.self.view_is
