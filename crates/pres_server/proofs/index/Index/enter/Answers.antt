use Rattle.std.proofs.Common.{sym, subst, ◌≡◌, ◌∷◌, [], IfOk}
use Rattle.pres_server.specs.InternalIndex.{answer_on}
use Rattle.pres_server.proofs.index.Index.enter.Goals as goal
use Rattle.std.proofs.Common.{arith}
use Rattle.std.proofs.lemmas.Grind.{common_steps}

pub returns-in-Op-clause-answer : goal.returns-in-Op-clause-answer
returns-in-Op-clause-answer c =
    subst (λ e. IfOk c.write.result (λ answer. answer_on c.args.self.now c.args.made e ≡ answer ∷ [])) (sym c.in-Op.is)
    (c.write.ensures.answer c.in-Op.op)

pub returns-in-Ended-clause-answer : goal.returns-in-Ended-clause-answer
returns-in-Ended-clause-answer c =
    subst (λ e. IfOk c.end.result (λ answer. answer_on c.args.self.now c.args.made e ≡ answer ∷ [])) (sym c.in-Ended.is)
    (c.end.ensures.answer c.in-Ended.q)

pub end-requires : goal.end-requires
end-requires c = grind (arith, common_steps)

pub returns-in-Op-clause-steps : goal.returns-in-Op-clause-steps
returns-in-Op-clause-steps c = grind arith

pub returns-in-Ended-clause-steps : goal.returns-in-Ended-clause-steps
returns-in-Ended-clause-steps c = grind arith

pub write-requires : goal.write-requires
write-requires c = grind (arith, common_steps)
