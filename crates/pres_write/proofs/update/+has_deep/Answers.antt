use Rattle.std.proofs.Common.{All, sym, subst, arith}
use Rattle.std.proofs.lemmas.List.Elements.{All-cons}
use Rattle.pres_tree.specs.Paths.{Path}
use Rattle.pres_tree.specs.Rows.{Rows}
use Rattle.pres_write.specs.declared.draft.DraftLeaf.{DraftLeaf}
use Rattle.pres_write.specs.Updates.{FitsBelow}
use Rattle.pres_write.proofs.Depths.{value_depth, fits_joined}
use Rattle.pres_write.proofs.update.+has_deep.Goals as goal
use Rattle.std.proofs.lemmas.Grind.{common_steps}

pub overflow_add-len-2 : goal.overflow_add-len-2
overflow_add-len-2 t c = omega (arith, c.len.ensures.path.0, c.len-2.ensures.path.0, value_depth c.in-Some.field-0-0.now.1 c.depth.ensures.value)

pub returns-clause-fit : goal.returns-clause-fit
returns-clause-fit t c = λ h.
    let p = c.args.path.now in
    let e : Path × Rows DraftLeaf = c.in-Some.field-0-0.now in
    let here : FitsBelow p e = fits_joined p e.0 e.1 c.len.ensures.path c.len-2.ensures.path c.depth.ensures.value (omega (arith, c.if-len-depth-gt-MAX_DEPTH.false, c.len.ensures.len, c.len-2.ensures.len, c.depth.ensures.depth)) in
    subst (All (FitsBelow p)) (sym c.in-Some.ensures.cases.0) (All-cons (FitsBelow p) e c.in-Some.rest.now here (c.has_deep.ensures.fit h))

pub returns-in_default-clause-deep : goal.returns-in_default-clause-deep
returns-in_default-clause-deep t c = grind (arith, common_steps)
