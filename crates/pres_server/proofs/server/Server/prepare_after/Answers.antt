use Rattle.std.proofs.Common.{◌≡◌, ◌∙◌, ◌≤◌, ℕ, min, max, ap, sym, subst, arith}
use Rattle.std.specs.Result.{IfOk}
use Rattle.pres_write.specs.Moments as moments
use Rattle.pres_server.specs.declared.input.Input.TheVariants as input
use Rattle.pres_server.specs.Sums.{Sum}
use Rattle.pres_server.specs.SumTurns.{moment_by}
use Rattle.pres_server.specs.Groups.{state_from, MakesBatch}
use Rattle.pres_server.proofs.Grouped.{state_sum}
use Rattle.pres_server.proofs.server.Server.prepare_after.Goals as goal

later_is : (last now m : ℕ) → last ≡ m → now ≤ moments.last_moment → max last now ≡ max (min now moments.last_moment) m
later_is last now m e low = omega arith

pub returns-in-Up-Op-clause-batch : goal.returns-in-Up-Op-clause-batch
returns-in-Up-Op-clause-batch c =
    let state = c.args.self.now in
    let log = c.args.batches.now in
    let greatest : c.args.last ≡ (state_from state log).sum.moment = c.requires.greatest ∙ ap (λ (x : Sum). x.moment) (sym (state_sum log state)) in
    let moment : c.max.result ≡ moment_by (state_from state log).sum c.args.now = c.max.ensures ∙ later_is c.args.last c.args.now (state_from state log).sum.moment greatest c.millis.ensures.bound in
    subst (λ i. IfOk c.op_after.result (MakesBatch (state_from state log) i c.args.now)) (sym (c.in-Up-Op.is ∙ ap input.Up c.in-Up-Op.field-0-is)) (c.op_after.ensures.batch c.args.now moment)
