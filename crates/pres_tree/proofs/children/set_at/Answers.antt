use Rattle.std.proofs.Common.{slice_set, ◌∙◌}
use Rattle.pres_tree.proofs.Places.{set_there}
use Rattle.pres_tree.proofs.children.set_at.Goals as goal

pub returns-clause-items : goal.returns-clause-items
returns-clause-items g c =
    let es = c.args.few.now.items in
    let entry = c.index_mut-entry.result.now in
    (λ j. slice_set es c.args.at (entry.0, c.replace.ensures.after j)) ∙ set_there es c.args.at entry c.args.value c.requires c.index_mut-entry.ensures.value
