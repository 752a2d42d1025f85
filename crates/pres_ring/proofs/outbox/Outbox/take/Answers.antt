use Rattle.std.proofs.Common.{sym}
use Rattle.rtrb.specs.Ring.{received, known_items}
use Rattle.pres_ring.proofs.Begins.{starts_taken, begins_front}
use Rattle.pres_ring.proofs.BeginsIn.{told_taken}
use Rattle.pres_ring.proofs.outbox.Outbox.take.Goals as goal
use Rattle.std.proofs.Common.{arith}
use Rattle.std.proofs.lemmas.Grind.{common_steps}

pub invariant_of-self-2 : goal.invariant_of-self-2
invariant_of-self-2 c =
    let old = c.self.inside.ring in
    let ok = c.in-Ok.ensures.ok in
    let starts = starts_taken c.self.inside.session (received old) (known_items old) (known_items c.pop.new.self) c.in-Ok.message c.self.invariant.1 ok.1 in
    rw ok.0 (told_taken c.self.inside.session (received old) (known_items c.pop.new.self) c.in-Ok.message starts ok.2, starts)

pub returns-clause-told : goal.returns-clause-told
returns-clause-told c = rw (sym c.self.view_is) (invariant_of-self-2 c).0

pub returns-clause-begins : goal.returns-clause-begins
returns-clause-begins c =
    rw (sym c.self.view_is) (begins_front c.self.inside.session (received c.pop.new.self) (known_items c.pop.new.self) (invariant_of-self-2 c).1)

pub returns-clause-took : goal.returns-clause-took
returns-clause-took c = grind (arith, common_steps)

pub invariant_of-self : goal.invariant_of-self
invariant_of-self c = grind (arith, common_steps)
