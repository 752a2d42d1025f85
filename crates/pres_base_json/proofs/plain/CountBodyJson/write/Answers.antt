use Rattle.std.proofs.Common.{◌<◌, ◌^◌, ap, arith}
use Rattle.std.specs.Prelude.{option_map}
use Rattle.serde_json.specs.Data.{number}
use Rattle.serde_json.proofs.Numbers.{number_of-decimal}
use Rattle.pres_tree.proofs.Printing.{on_any}
use Rattle.pres_base_json.proofs.plain.CountBodyJson.write.Goals as goal

pub returns-clause-plain : goal.returns-clause-plain
returns-clause-plain c =
    let few : c.args.self.now < 2 ^ 64 = omega (arith, c.get.ensures.bound) in
    on_any c.u64.result (ap (option_map number) (number_of-decimal c.args.self.now few))
