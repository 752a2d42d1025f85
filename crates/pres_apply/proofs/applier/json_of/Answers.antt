use Rattle.std.proofs.Common.{sym, rules}
use Rattle.serde_json.specs.Errors.{IsMemory}
use Rattle.serde_json.specs.View.{view}
use Rattle.pres_apply.proofs.Json.{data_some, data_none}
use Rattle.pres_apply.proofs.applier.json_of.Goals as goal

pub returns-in-Ok : goal.returns-in-Ok
returns-in-Ok c =
    let line = c.args.line.now in
    sym (data_some line (view c.in-Ok.value) c.in-Ok.ensures.ok.0 c.in-Ok.ensures.ok.1)

pub returns-else-is_memory : goal.returns-else-is_memory
returns-else-is_memory c =
    let line = c.args.line.now in
    let other : ¬ IsMemory c.in-Err.error = search rules in
    sym (data_none line (c.in-Err.ensures.err other))
