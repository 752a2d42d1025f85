use Rattle.std.proofs.Common.{subst, sym, ap, ◌∙◌, ◌+◌}
use Rattle.pres_log.specs.Logs.{IsNumbered, number}
use Rattle.pres_log.proofs.Entries.{IsNumbered-push}
use Rattle.pres_log.proofs.log.Log.push.Goals as goal
use Rattle.std.proofs.Common.{arith}
use Rattle.std.proofs.lemmas.Grind.{common_steps}

pub invariant_of-self-2 : goal.invariant_of-self-2
invariant_of-self-2 c = subst IsNumbered (sym c.in_ok-push.ensures.items) (IsNumbered-push c.self.inside.batches.items c.args.batch c.self.invariant (c.requires ∙ ap (λ log. number log + 1) (sym c.self.view_is)))

pub returns-clause-ok : goal.returns-clause-ok
returns-clause-ok c = grind (arith, common_steps)
