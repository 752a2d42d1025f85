use Rattle.std.proofs.Common.{sym, ap, ◌∙◌}
use Rattle.pres_write.specs.Unconditionals.{may_be_puts}
use Rattle.pres_write.proofs.Puttable.{passes}
use Rattle.pres_write.proofs.puts.Puts.new.Goals as goal

pub invariant_of-result : goal.invariant_of-result
invariant_of-result c = passes c.args.placements.items (ap may_be_puts (sym c.as_slice.ensures.value) ∙ sym c.may_be_puts.ensures ∙ c.if-not-may_be_puts.false)
