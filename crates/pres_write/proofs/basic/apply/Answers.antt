use Rattle.std.proofs.Common.{◌∷◌, [], sym, ap, ◌∙◌}
use Rattle.std.proofs.lemmas.List.{take_all}
use Rattle.pres_tree.specs.Writes.{write, after}
use Rattle.pres_tree.specs.Rows.{rows_in}
use Rattle.pres_write.specs.Basics.{BasicWrite, write_of, applied}
use Rattle.pres_write.proofs.Applied.{applied_nothing, applied_more}
use Rattle.pres_write.proofs.basic.apply.Goals as goal

pub loop-write-init : goal.loop-write-init
loop-write-init c = sym (applied_nothing _ c.is_empty.ensures.value)

pub loop-write-preserved : goal.loop-write-preserved
loop-write-preserved c =
    c.in_ok-set.ensures.ok
    ∙ ap (λ v. after c.loop-write.tree (write c.write.inside.path (rows_in v) ∷ [])) (c.in_ok-value.ensures ∙ c.as_ref.ensures.value)
    ∙ ap (λ (b : BasicWrite). after c.loop-write.tree (write_of b ∷ [])) c.write.view_is
    ∙ ap (λ t. after t (write_of c.write-item.result ∷ [])) c.loop-write.invariant
    ∙ applied_more c.args.tree.now c.args.writes.now c.loop-write.write-index c.write-item.result c.loop-write-test.true c.write-item.is

pub returns-clause-ok : goal.returns-clause-ok
returns-clause-ok c = c.loop-write.invariant ∙ ap (applied c.args.tree.now) (take_all _ _ c.loop-write-test.false)
