use Rattle.std.proofs.Common.{◌≡◌, ◌<◌, length, Some, sym, ap, ◌∙◌, rules, option_and_then}
use Rattle.serde_json.specs.Find.{as_array}
use Rattle.serde_json.specs.View.{view, items_view}
use Rattle.pres_ids.specs.Forms.{session_in_items}
use Rattle.pres_ids.proofs.Sessions.{too_few, too_many}
use Rattle.pres_ids.proofs.as_json.read_session.Goals as goal
use Rattle.pres_ids.proofs.as_json.read_session.Goals.{in_default-as_slice-via-then-as_slice-lt3, in_default-as_slice-via-else-as_slice-lt3+else-this-lt4}
use Rattle.std.proofs.Common.{arith}
use Rattle.std.proofs.lemmas.Grind.{common_steps}

pub returns-in_default-as_slice : goal.returns-in_default-as_slice
returns-in_default-as_slice c =
    let items = c.in-Some.items.now.items in
    let listed : as_array (view c.args.value.now) ≡ Some (items_view items) = search rules in
    let read = ap (option_and_then session_in_items) listed in
    elim c.in_default-as_slice.branch [
      | in_default-as_slice-via-then-as_slice-lt3 w ↦ let few : length items < 3 = search rules in sym (read ∙ too_few items few)
      | in_default-as_slice-via-else-as_slice-lt3+else-this-lt4 w ↦ let many : 3 < length items = search rules in sym (read ∙ too_many items many)
    ]

pub returns-in_default-as_str : goal.returns-in_default-as_str
returns-in_default-as_str c = grind (arith, common_steps)

pub returns-in_default-read_number : goal.returns-in_default-read_number
returns-in_default-read_number c = grind (arith, common_steps)

pub returns-in_default-read_number-2 : goal.returns-in_default-read_number-2
returns-in_default-read_number-2 c = grind (arith, common_steps)

pub returns-in-Ok : goal.returns-in-Ok
returns-in-Ok c = grind (arith, common_steps)

pub returns-in-Err-NotAnId : goal.returns-in-Err-NotAnId
returns-in-Err-NotAnId c = grind (arith, common_steps)
