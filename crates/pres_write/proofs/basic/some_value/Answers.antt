use Rattle.std.proofs.Common.{sym}
use Rattle.pres_write.proofs.Held.{option_of_none, option_of_some}
use Rattle.pres_write.proofs.basic.some_value.Goals as goal

pub returns-then-is_empty : goal.returns-then-is_empty
returns-then-is_empty c = sym (option_of_none c.args.value (sym c.if-is_empty.ensures.null))

pub returns-else-is_empty : goal.returns-else-is_empty
returns-else-is_empty c = sym (option_of_some c.args.value (sym c.if-is_empty.ensures.null))
