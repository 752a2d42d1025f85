use Rattle.pres_script.proofs.Inputs.{known_lines, says_known}
use Rattle.pres_service.proofs.client.lines_from.Goals as goal

pub returns-in-Ok-clause-lines : goal.returns-in-Ok-clause-lines
returns-in-Ok-clause-lines g c = says_known (g.I.Read.remaining c.args.input.now) c.in_ok-bytes.bytes.items c.as_slice.result.now c.in-Ok.lines.items c.in_ok-bytes.ensures.read c.as_slice.ensures.value c.in-Ok.ensures.lines

pub returns-in-Ok-clause-good : goal.returns-in-Ok-clause-good
returns-in-Ok-clause-good g c = known_lines (g.I.Read.remaining c.args.input.now) c.in_ok-bytes.bytes.items c.as_slice.result.now c.in-Ok.lines.items c.in_ok-bytes.ensures.read c.as_slice.ensures.value c.in-Ok.ensures.lines
