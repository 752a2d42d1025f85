use Rattle.pres_batch_json.proofs.Forms.{ok_so, ended_form}
use Rattle.pres_batch_json.proofs.entry.ended_value.Goals as goal
use Rattle.std.proofs.Common.{arith}
use Rattle.std.proofs.lemmas.Grind.{common_steps}

pub returns-clause-form : goal.returns-clause-form
returns-clause-form c =
    ok_so c.entry_value.result (ended_form c.args.session.now c.args.q c.args.why c.args.rows.now c.number_value.ensures.reads_back c.word.ensures.form c.in_ok-rows.ensures.reads_back) c.entry_value.ensures.reads_back

pub returns-clause-json : goal.returns-clause-json
returns-clause-json c = grind (arith, common_steps)

pub returns-clause-low : goal.returns-clause-low
returns-clause-low c = grind (arith, common_steps)
