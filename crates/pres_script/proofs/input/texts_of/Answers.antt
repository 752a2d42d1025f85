use Rattle.std.proofs.Common.{rules, tests, ◌≡◌, IfOk, map, sym, subst, ◌∙◌}
use Rattle.std.proofs.lemmas.Iterator.Consumers.{map_from_collect}
use Rattle.std.proofs.lemmas.Iterator.Splits.{YieldsList-from_slice_split}
use Rattle.pres_script.proofs.Inputs.{lines_of-some}
use Rattle.pres_script.proofs.input.texts_of.Goals as goal

pub returns : goal.returns
returns c =
    subst (λ lines. IfOk c.collect.result (λ texts. map (λ text. text.now) texts.items ≡ lines))
    (lines_of-some c.args.input.now c.without_last_feed.result.now (sym c.is_empty.ensures ∙ c.if-is_empty.false) c.without_last_feed.ensures)
    (map_from_collect _ c.collect.ensures.ran (YieldsList-from_slice_split _ _ c.without_last_feed.result.now c.split.ensures.rest c.split.ensures.done c.split.ensures.closure (λ x r q k. search (rules, tests))))
