use Rattle.std.proofs.Common.{List, ◌++◌, ◌∷◌, [], sym, ◌∙◌, ap, take}
use Rattle.std.specs.List.{list_any}
use Rattle.std.specs.Map.{values_of}
use Rattle.std.proofs.lemmas.List.{take_all}
use Rattle.pres_tree.specs.Paths.{is_prefix}
use Rattle.pres_write.specs.declared.basic.Basic.{Basic}
use Rattle.pres_plan.specs.Plans.{path_of, due, due_write}
use Rattle.pres_plan.proofs.Due.{due_more, none_covered, rows_more}
use Rattle.pres_plan.proofs.plan.Plan.due_writes.Goals as goal

pub loop-row-init : goal.loop-row-init
loop-row-init c = c.in_ok-writes.ensures.items

pub loop-row-preserved : goal.loop-row-preserved
loop-row-preserved c =
    let rows = c.as_slice-row-items.result.now in
    let i = c.loop-row.row-index in
    let row = c.loop-row-item.result in
    let tree = c.args.tree.now in
    let moment = c.args.moment in
    let writes = c.loop-row.writes.items in
    let write = c.in_ok-write.ensures ∙ ap (λ (b : List Basic). due_write tree b moment row.1.action) c.as_slice.ensures.value in
    c.in_ok-push.ensures.items
    ∙ ap (λ w. writes ++ w ∷ []) write
    ∙ ap (λ (b : List Basic). b ++ due_write tree b moment row.1.action ∷ []) c.loop-row.invariant
    ∙ sym (due_more tree moment (values_of (take i rows)) row.1)
    ∙ ap (due tree moment) (sym (rows_more rows i row c.loop-row-item.is c.loop-row-test.true))

pub write-requires : goal.write-requires
write-requires c =
    let rows = c.as_slice-row-items.result.now in
    let i = c.loop-row.row-index in
    let row = c.loop-row-item.result in
    ap (list_any (λ b. is_prefix (path_of row.1.action) b.path)) (c.as_slice.ensures.value ∙ c.loop-row.invariant)
    ∙ none_covered c.args.tree.now c.args.moment rows i row c.loop-row-item.is c.loop-row-test.true
    (values_of c.self.inside.standing.rows) (ap values_of c.as_slice-row-items.ensures) c.self.invariant.plan.whole

pub returns-clause-writes : goal.returns-clause-writes
returns-clause-writes c =
    let rows = c.as_slice-row-items.result.now in
    c.of.ensures
    ∙ c.loop-row.invariant
    ∙ ap (λ es. due c.args.tree.now c.args.moment (values_of es)) (take_all c.loop-row.row-index rows c.loop-row-test.false)
    ∙ ap (λ es. due c.args.tree.now c.args.moment (values_of es)) c.as_slice-row-items.ensures
    ∙ ap (due c.args.tree.now c.args.moment) c.self.view_is
