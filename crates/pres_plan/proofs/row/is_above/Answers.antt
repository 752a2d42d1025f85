use Rattle.std.proofs.Common.{sym, ap, ◌∙◌, ◌≤◌, length, arith}
use Rattle.std.proofs.lemmas.Bool.{le-ltb}
use Rattle.pres_plan.proofs.HeldAfter.{not_shorter}
use Rattle.pres_plan.proofs.row.is_above.Goals as goal

pub returns-else-len : goal.returns-else-len
returns-else-len c =
    let long : length c.args.path.now ≤ length c.args.write.now.path = omega (arith, c.if-len.false, c.len.ensures.len, ap length c.path.ensures.path, c.len-2.ensures.len) in
    le-ltb c.len.result c.len-2.result c.if-len.false ∙ sym (not_shorter c.args.path.now c.args.write.now.path c.requires long)
