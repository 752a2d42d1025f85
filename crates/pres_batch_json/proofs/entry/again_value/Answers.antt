use Rattle.pres_batch_json.proofs.Forms.{ok_so, again_form}
use Rattle.pres_batch_json.proofs.entry.again_value.Goals as goal
use Rattle.std.proofs.Common.{arith}
use Rattle.std.proofs.lemmas.Grind.{common_steps}

pub returns-clause-form : goal.returns-clause-form
returns-clause-form c =
    ok_so c.entry_value.result (again_form c.args.session.now c.args.q c.args.n c.number-2.ensures.reads_back c.number.ensures.reads_back) c.entry_value.ensures.reads_back

pub returns-clause-json : goal.returns-clause-json
returns-clause-json c = grind (arith, common_steps)
