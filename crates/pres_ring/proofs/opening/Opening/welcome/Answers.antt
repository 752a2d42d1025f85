use Rattle.std.proofs.Common.{◌∷◌, [], ◌++◌, ◌∙◌, ap, subst, sym}
use Rattle.pres_ring.specs.Transcripts.{IsWelcome, StartsWithWelcome}
use Rattle.pres_ring.proofs.BeginsIn.{told_front, first_told}
use Rattle.pres_ring.proofs.opening.Opening.welcome.Goals as goal
use Rattle.std.proofs.Common.{arith}
use Rattle.std.proofs.lemmas.Grind.{common_steps}

pub new-requires-2-clause-told : goal.new-requires-2-clause-told
new-requires-2-clause-told c =
    let o = c.self.inside in
    rw (c.slots_beside.ensures.looked.1, c.self.invariant.1.received_none, c.self.invariant.0) (told_front o.session [] (c.args.message ∷ []) (rw (sym c.self.view_is) at c.requires))

pub new-requires-2-clause-starts : goal.new-requires-2-clause-starts
new-requires-2-clause-starts c =
    let m = c.args.message in
    let all = c.slots_beside.ensures.fifo ∙ c.slots_beside.ensures.producer.1 ∙ c.push_reserved.ensures.sent.0 ∙ ap (λ l. l ++ m ∷ []) c.self.invariant.1.sent_none in
    subst (StartsWithWelcome c.self.inside.same) (sym all) (subst (λ s. IsWelcome s m) (sym (c.self.invariant.0 ∙ c.self.view_is)) (first_told c.args.self m [] c.requires))

pub returns-clause-feed : goal.returns-clause-feed
returns-clause-feed c = grind (arith, common_steps)

pub push_reserved-requires : goal.push_reserved-requires
push_reserved-requires c = grind arith

pub returns-clause-outbox : goal.returns-clause-outbox
returns-clause-outbox c = grind (arith, common_steps)
