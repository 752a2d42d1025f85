use Rattle.std.proofs.Common.{subst, sym}
use Rattle.pres_server.specs.declared.input.Input.TheVariants as input
use Rattle.pres_server.specs.InternalIndex.{DecidesOn}
use Rattle.pres_server.proofs.index.Index.decide_message.Goals as goal
use Rattle.std.proofs.Common.{arith}

pub returns-in-Hello : goal.returns-in-Hello
returns-in-Hello c = subst (λ m. DecidesOn c.args.self.now c.args.now (input.Up m) c.effect_of.result) (sym c.in-Hello.is) (c.effect_of.ensures _ _ c.hello_entries.ensures)

pub returns-in-Op : goal.returns-in-Op
returns-in-Op c = subst (λ m. DecidesOn c.args.self.now c.args.now (input.Up m) c.decide_op.result) (sym c.in-Op.is) c.decide_op.ensures

pub returns-in-Bye : goal.returns-in-Bye
returns-in-Bye c = subst (λ m. DecidesOn c.args.self.now c.args.now (input.Up m) c.decide_bye.result) (sym c.in-Bye.is) c.decide_bye.ensures

pub returns-in-Left : goal.returns-in-Left
returns-in-Left c = subst (λ m. DecidesOn c.args.self.now c.args.now (input.Up m) c.decide_left-step.result) (sym c.in-Left.is) c.decide_left-step.ensures

pub returns-in-Cancel : goal.returns-in-Cancel
returns-in-Cancel c = subst (λ m. DecidesOn c.args.self.now c.args.now (input.Up m) c.decide_cancel.result) (sym c.in-Cancel.is) c.decide_cancel.ensures

pub returns-in-On : goal.returns-in-On
returns-in-On c = subst (λ m. DecidesOn c.args.self.now c.args.now (input.Up m) c.decide_on.result) (sym c.in-On.is) c.decide_on.ensures

pub returns-in-Off : goal.returns-in-Off
returns-in-Off c = subst (λ m. DecidesOn c.args.self.now c.args.now (input.Up m) c.decide_off.result) (sym c.in-Off.is) c.decide_off.ensures

pub returns-in-Beat : goal.returns-in-Beat
returns-in-Beat c = grind arith
