use Rattle.std.proofs.Common.{◌∷◌, [], ◌++◌, append_assoc, ap, ◌∙◌}
use Rattle.std.specs.FinMap.Entries.{put}
use Rattle.pres_tree.specs.Paths.{Path, path_cmp}
use Rattle.pres_tree.specs.Rows.{Rows}
use Rattle.pres_write.specs.declared.draft.DraftLeaf.{DraftLeaf}
use Rattle.pres_write.proofs.Ordered.{insert_entry-put}
use Rattle.pres_write.proofs.update.in_order.Goals as goal

pub loop-place-preserved : goal.loop-place-preserved
loop-place-preserved c =
    let l = c.loop-place in
    let done = l.invariant.0 in
    let e : Path × Rows DraftLeaf = (c.in-Some.place, c.in-Some.draft) in (
      e ∷ done,
      l.invariant.1 ∙ ap (λ es. es ++ done) c.in-Some.ensures.items ∙ append_assoc c.pop.new.self.items (e ∷ []) done,
      c.in_ok-insert.ensures.entries
          ∙ insert_entry-put path_cmp e.0 e.1 l.drafts.entries
          ∙ ap (put path_cmp e.0 e.1) l.invariant.2,
      c.in_ok-insert.ensures.ordered,
    )
