use Rattle.std.proofs.Common.{◌≡◌, IfOk, option_map, subst, ap, ◌∙◌}
use Rattle.pres_sim.specs.Scripts.{script_line, scripted}
use Rattle.pres_sim.proofs.Played.{script_of_text, no_script}
use Rattle.pres_sim.proofs.script.step_in.Goals as goal

pub returns-in-Ok : goal.returns-in-Ok
returns-in-Ok c =
    subst (λ read. IfOk c.step_of.result (λ step. option_map scripted step ≡ read)) (ap script_line c.in-Ok.ensures.cases.0 ∙ script_of_text c.args.bytes.now c.in-Ok.ensures.cases.1) c.step_of.ensures

pub returns-in-Err : goal.returns-in-Err
returns-in-Err c = no_script c.args.bytes.now c.in-Err.ensures.cases.0
