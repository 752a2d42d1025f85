use Rattle.std.proofs.Common.{arith}
use Rattle.std.proofs.lemmas.Grind.{common_steps}
use Rattle.pres_wire.proofs.down.Down.to_value.Goals as goal

pub returns-in_ok-form-in-Snap-clause-form : goal.returns-in_ok-form-in-Snap-clause-form
returns-in_ok-form-in-Snap-clause-form c = grind (arith, common_steps)

pub returns-in-Denied-clause-json : goal.returns-in-Denied-clause-json
returns-in-Denied-clause-json c = grind (arith, common_steps)

pub returns-in_ok-form-in-Reply-clause-json : goal.returns-in_ok-form-in-Reply-clause-json
returns-in_ok-form-in-Reply-clause-json c = grind (arith, common_steps)

pub returns-in-Armed-clause-json : goal.returns-in-Armed-clause-json
returns-in-Armed-clause-json c = grind (arith, common_steps)

pub returns-in-OffDone-clause-low : goal.returns-in-OffDone-clause-low
returns-in-OffDone-clause-low c = grind (arith, common_steps)

pub returns-in_ok-form-in-Snap-clause-low : goal.returns-in_ok-form-in-Snap-clause-low
returns-in_ok-form-in-Snap-clause-low c = grind (arith, common_steps)

pub returns-in-Denied-clause-form : goal.returns-in-Denied-clause-form
returns-in-Denied-clause-form c = grind arith

pub returns-in-Armed-clause-low : goal.returns-in-Armed-clause-low
returns-in-Armed-clause-low c = grind (arith, common_steps)

pub returns-in-OffDone-clause-json : goal.returns-in-OffDone-clause-json
returns-in-OffDone-clause-json c = grind (arith, common_steps)

pub returns-in-Armed-clause-form : goal.returns-in-Armed-clause-form
returns-in-Armed-clause-form c = grind (arith, common_steps)

pub returns-in_ok-form-in-Snap-clause-json : goal.returns-in_ok-form-in-Snap-clause-json
returns-in_ok-form-in-Snap-clause-json c = grind (arith, common_steps)

pub returns-in-OffDone-clause-form : goal.returns-in-OffDone-clause-form
returns-in-OffDone-clause-form c = grind (arith, common_steps)

pub returns-in_ok-form-in-Reply-clause-low : goal.returns-in_ok-form-in-Reply-clause-low
returns-in_ok-form-in-Reply-clause-low c = grind (arith, common_steps)

pub returns-in_ok-form-in-Reply-clause-form : goal.returns-in_ok-form-in-Reply-clause-form
returns-in_ok-form-in-Reply-clause-form c = grind (arith, common_steps)
