use Rattle.std.proofs.Common.{◌++◌, ap, ◌∙◌}
use Rattle.json.specs.Print.{print}
use Rattle.pres_tree.specs.JsonPrinting.{json_of}
use Rattle.pres_tree.proofs.Written.{text_written}
use Rattle.pres_tree.proofs.print.print_value.Goals as goal

pub returns-else-is_err-clause-ok : goal.returns-else-is_err-clause-ok
returns-else-is_err-clause-ok g c =
    let before = c.write_value-written.ensures.before ∙ c.new-writer.ensures.before ∙ ap (λ v. v.items) c.replace.ensures.value in
    text_written c.write_value-written.result c.into_inner.result.items c.args.out.now.items c.new-writer.result.tokens c.write_value-written.new.out.tokens (json_of g.P.PrintedForm.printing c.args.tree.now)
    (c.into_inner.ensures.items ∙ ap (λ bs. bs ++ print c.write_value-written.new.out.tokens) before) c.new-writer.ensures.tokens c.write_value-written.ensures.ok
