use Rattle.std.proofs.Common.{subst, sym}
use Rattle.pres_server.specs.InternalIndex.{DecidesOn}
use Rattle.pres_server.proofs.index.Index.decide.Goals as goal

pub returns-in-Up : goal.returns-in-Up
returns-in-Up c = subst (λ i. DecidesOn c.args.self.now c.args.now i c.decide_message.result) (sym c.in-Up.is) c.decide_message.ensures

pub returns-in-Lost : goal.returns-in-Lost
returns-in-Lost c = subst (λ i. DecidesOn c.args.self.now c.args.now i c.decide_lost.result) (sym c.in-Lost.is) c.decide_lost.ensures

pub returns-in-Slow : goal.returns-in-Slow
returns-in-Slow c = subst (λ i. DecidesOn c.args.self.now c.args.now i c.decide_lost-in-Slow.result) (sym c.in-Slow.is) c.decide_lost-in-Slow.ensures

pub returns-in-Restart : goal.returns-in-Restart
returns-in-Restart c = subst (λ i. DecidesOn c.args.self.now c.args.now i c.decide_end.result) (sym c.in-Restart.is) c.decide_end.ensures
