use Rattle.std.proofs.Common.{◌<◌, length, sym, rules}
use Rattle.pres_base_json.proofs.Plans.{too_few, too_many}
use Rattle.pres_base_json.proofs.plan.read_action.Goals as goal
use Rattle.pres_base_json.proofs.plan.read_action.Goals.{in_default-via-then-items-lt1, in_default-via-else-items-lt1+else-items-lt2+else-items-lt3}

pub returns-in_default : goal.returns-in_default
returns-in_default c =
    let items = c.args.items.now in
    elim c.in_default.branch [
      | in_default-via-then-items-lt1 w ↦ let few : length items < 1 = search rules in sym (too_few items few)
      | in_default-via-else-items-lt1+else-items-lt2+else-items-lt3 w ↦ let many : 2 < length items = search rules in sym (too_many items many)
    ]
