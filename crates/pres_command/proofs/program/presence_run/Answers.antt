use Rattle.std.proofs.Common.{sym, subst, inr, refl}
use Rattle.pres_apply.specs.Lines.{Stopped}
use Rattle.pres_apply.proofs.Going.{stopped_none}
use Rattle.pres_command.proofs.program.presence_run.Goals as goal

pub returns-in-Err-clause-memory : goal.returns-in-Err-clause-memory
returns-in-Err-clause-memory g c = λ _ is.
    let input = g.R.Read.remaining c.args.input.now in
    let before = g.W.Write.contents c.args.output.now in
    subst (λ x. Stopped input input before (g.W.Write.contents x)) (sym (c.explain.ensures.memory is)) (stopped_none input before)

pub returns-in-Err-clause-done : goal.returns-in-Err-clause-done
returns-in-Err-clause-done g c = λ _ is. inr refl
