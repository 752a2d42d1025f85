use Rattle.std.proofs.Common.{◌<◌, ◌^◌, ap, arith}
use Rattle.std.specs.Prelude.{option_map}
use Rattle.serde_json.specs.Data.{number}
use Rattle.serde_json.proofs.Numbers.{number_of-decimal}
use Rattle.pres_tree.proofs.Printing.{on_any}
use Rattle.pres_ids.proofs.as_json.write_number.Goals as goal

pub returns-clause-plain : goal.returns-clause-plain
returns-clause-plain c =
    let few : c.args.number < 2 ^ 64 = omega (arith, c.get.ensures.number) in
    on_any c.u64.result (ap (option_map number) (number_of-decimal c.args.number few))
