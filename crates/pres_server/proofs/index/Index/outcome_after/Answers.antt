use Rattle.std.proofs.Common.{◌≡◌, [], ◌∷◌, false, sym, ap, ◌∙◌}
use Rattle.pres_tree.specs.Rows.{value_at}
use Rattle.pres_tree.specs.Writes.{write, after}
use Rattle.pres_write.specs.Outcomes.{named_path, resolved}
use Rattle.pres_server.specs.InternalGroups.{some_meet}
use Rattle.pres_server.proofs.Overlaid.{read_before, read_alone}
use Rattle.pres_server.proofs.index.Index.outcome_after.Goals as goal

pub returns-in-Ok : goal.returns-in-Ok
returns-in-Ok c =
    let tree = c.args.self.now.tree in
    let op = c.args.op.now in
    let log = c.args.batches.now in
    let none : some_meet (named_path op) log ≡ false =
    ap (λ p. some_meet p log) (sym c.path-path.ensures) ∙ sym c.some_meet.ensures ∙ c.if-not-some_meet.true in
    c.in-Ok.ensures.outcome ∙ read_before tree log c.args.moment op c.is_empty.ensures.value.in_order none

pub returns-in-Ok-resolve : goal.returns-in-Ok-resolve
returns-in-Ok-resolve c =
    let tree = c.args.self.now.tree in
    let op = c.args.op.now in
    let log = c.args.batches.now in
    let p = named_path op in
    let start = c.set.new.self in
    let is : start ≡ after [] (write p (value_at p tree) ∷ []) =
    c.in-Ok-set.ensures.ok ∙ (λ i. after (c.empty-there.ensures i) (write (c.path-path.ensures i) (c.in-Ok-copy_at.ensures.value i) ∷ []))
    ∙ ap (λ q. after [] (write p (value_at q tree) ∷ [])) c.path-path.ensures in
    c.in-Ok-resolve.ensures.outcome
    ∙ ap (λ t. resolved t c.args.moment op) (c.write_all.ensures c.if-not-write_all.false)
    ∙ read_alone tree start log c.args.moment op c.is_empty.ensures.value.in_order is
