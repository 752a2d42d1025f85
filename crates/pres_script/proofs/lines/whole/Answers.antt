use Rattle.std.proofs.Common.{refl, sym, ◌∙◌}
use Rattle.pres_script.specs.declared.lines.LineFault.TheVariants as unread
use Rattle.pres_script.proofs.ParsedLines.{a_number, no_number, no_numeral}
use Rattle.pres_script.proofs.lines.whole.Goals as goal

pub returns-then-not-has_digits_alone : goal.returns-then-not-has_digits_alone
returns-then-not-has_digits_alone c = (refl, no_numeral c.args.text.now (sym c.has_digits_alone.ensures ∙ c.if-not-has_digits_alone.true))

pub returns-in-Ok : goal.returns-in-Ok
returns-in-Ok c = a_number c.args.text.now (sym c.has_digits_alone.ensures ∙ c.if-not-has_digits_alone.false) c.in-Ok.number c.in-Ok.ensures.value.0

pub returns-in-Err : goal.returns-in-Err
returns-in-Err c = (refl, no_number c.args.text.now (sym c.has_digits_alone.ensures ∙ c.if-not-has_digits_alone.false) unread.Bad c.in-Err.ensures.value.0)
