use Rattle.std.proofs.Common.{◌≡◌, IfOk, option_map, subst, ap, ◌∙◌}
use Rattle.pres_script.specs.Lines.{line_in, as_parsed}
use Rattle.pres_script.proofs.Inputs.{line_of_text, no_text}
use Rattle.pres_service.proofs.client.line_in.Goals as goal

pub returns-in-Ok : goal.returns-in-Ok
returns-in-Ok c =
    subst (λ read. IfOk c.line_of.result (λ line. option_map as_parsed line ≡ read)) (ap line_in c.in-Ok.ensures.cases.0 ∙ line_of_text c.args.bytes.now c.in-Ok.ensures.cases.1) c.line_of.ensures

pub returns-in-Err : goal.returns-in-Err
returns-in-Err c = no_text c.args.bytes.now c.in-Err.ensures.cases.0
