use Rattle.std.proofs.Common.{List, sym, subst}
use Rattle.pres_fan.specs.declared.listeners.Listener.{Listener}
use Rattle.pres_fan.proofs.Members.{nobody_listens}
use Rattle.pres_fan.proofs.Held.{AreHeld, nobody_heard}
use Rattle.pres_fan.proofs.listeners.Listeners.new.Goals as goal

pub invariant_of-result : goal.invariant_of-result
invariant_of-result c = subst (λ (ls : List Listener). AreHeld ls c.new-2.result) (sym c.new.ensures) (nobody_listens, nobody_heard c.new-2.result c.new-2.ensures)
