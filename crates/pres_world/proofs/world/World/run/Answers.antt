use Rattle.pres_world.proofs.Reached.{one_more}
use Rattle.pres_world.proofs.Whole.{safe_behind, safe_refused}
use Rattle.pres_world.proofs.world.World.run.Goals as goal
use Rattle.std.proofs.Common.{arith}
use Rattle.std.proofs.lemmas.Grind.{common_steps}

pub loop-event-preserved : goal.loop-event-preserved
loop-event-preserved c = one_more c.args.self.now c.loop-event.self c.step.new.self c.args.events.items c.loop-event.event-iterator.rest.items c.next.new.self.rest.items c.in-Some.event c.loop-event.invariant c.in-Some.ensures.steps.0 c.in_ok-step.ensures.ok

pub returns-clause-safe : goal.returns-clause-safe
returns-clause-safe c ids before h = safe_behind ids before c.loop-event.invariant.done c.args.self.now c.loop-event.self h c.loop-event.invariant.reaches

pub returns-in_err-step-clause-safe : goal.returns-in_err-step-clause-safe
returns-in_err-step-clause-safe c ids before h = safe_refused ids before c.loop-event.invariant.done c.args.self.now c.loop-event.self c.step.new.self c.in-Some.event _ h c.loop-event.invariant.reaches c.in_err-step.ensures.err

pub returns-clause-ok : goal.returns-clause-ok
returns-clause-ok c = grind (arith, common_steps)
