use Rattle.std.proofs.Common.{◌≡◌, ◌<◌, length, Some, ap, ◌∙◌, rules, option_and_then}
use Rattle.serde_json.specs.Find.{as_array}
use Rattle.serde_json.specs.View.{view, items_view}
use Rattle.pres_ids.specs.Forms.{two_items}
use Rattle.pres_ids.proofs.Pairs.{too_few, too_many}
use Rattle.pres_ids.proofs.pair.pair_of.Goals as goal
use Rattle.pres_ids.proofs.pair.pair_of.Goals.{in_default-via-then-as_slice-lt2, in_default-via-else-as_slice-lt2+else-this-lt3}
use Rattle.std.proofs.Common.{arith}
use Rattle.std.proofs.lemmas.Grind.{common_steps}

pub returns-in_default : goal.returns-in_default
returns-in_default c =
    let items = c.in_ok-items.items.now.items in
    let listed : as_array (view c.args.value.now) ≡ Some (items_view items) = search rules in
    let read = ap (option_and_then two_items) listed in
    elim c.in_default.branch [
      | in_default-via-then-as_slice-lt2 w ↦ let few : length items < 2 = search rules in read ∙ too_few items few
      | in_default-via-else-as_slice-lt2+else-this-lt3 w ↦ let many : 2 < length items = search rules in read ∙ too_many items many
    ]

pub returns : goal.returns
returns c = grind (arith, common_steps)
