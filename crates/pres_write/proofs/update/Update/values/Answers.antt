use Rattle.std.proofs.Common.{◌≡◌, ◌∷◌, [], ◌++◌, All, append_assoc, append-nil, sym, ap, subst, ◌∙◌}
use Rattle.std.specs.List.{AllByRecursion}
use Rattle.std.specs.List.Sorted.{IsStrictlySortedBy}
use Rattle.std.specs.Map.{keys_of}
use Rattle.serde_json.specs.View.{members_view}
use Rattle.pres_tree.specs.Keys.{key_cmp}
use Rattle.pres_tree.specs.Paths.{Path, path_cmp, sorted_by}
use Rattle.pres_tree.specs.JsonPrinting.{ReadsBack}
use Rattle.pres_tree.specs.Rows.{Rows}
use Rattle.pres_write.specs.declared.draft.DraftLeaf.{DraftLeaf}
use Rattle.pres_write.specs.Drafts.{slot_reading}
use Rattle.pres_write.specs.OpForms.{below_read, members_from, named, values_json}
use Rattle.pres_write.specs.Updates.{IsUpdate, FitsBelow}
use Rattle.pres_write.proofs.Named.{pairs, members_view-pairs, pairs-more, DraftReads, reads-append, values_read}
use Rattle.pres_write.proofs.update.Update.values.Goals as goal
use Rattle.pres_write.proofs.update.Update.values.Goals.{In-None}

pub loop-place-preserved : goal.loop-place-preserved
loop-place-preserved c =
    let l = c.loop-place in
    let done = l.invariant.0 in
    let e : Path × Rows DraftLeaf = (c.in-Some.place.now, c.in-Some.draft.now) in
    let left = c.next.new.self in
    let u = c.args.self.now in
    let all : u.places ≡ done ++ e ∷ left = l.invariant.1 ∙ ap (λ es. done ++ es) c.in-Some.ensures.steps in
    let held : IsUpdate u = subst IsUpdate c.self.view_is c.self.invariant in (
      done ++ e ∷ [],
      all ∙ sym (append_assoc done (e ∷ []) left),
      ap pairs c.in_ok-insert.ensures.entries
          ∙ pairs-more u.path l.values.entries c.in_ok-name.name c.in_ok-value.value done e left l.invariant.2 c.in_ok-name.ensures.name c.in_ok-value.ensures.json
          (subst (λ es. IsStrictlySortedBy path_cmp (keys_of es)) all held.in_order)
          (subst (All (FitsBelow u.path)) all held.fit),
      reads-append done e l.invariant.3 (subst (ReadsBack slot_reading e.1) c.in_ok-value.ensures.json c.in_ok-value.ensures.reads_back),
    )

-- all places are printed
end : (c : In-None) → members_view c.loop-place.values.entries ≡ values_json c.args.self.now.places
end c =
    let done = c.loop-place.invariant.0 in
    let all : c.args.self.now.places ≡ done = c.loop-place.invariant.1 ∙ ap (λ es. done ++ es) c.in-None.ensures.steps.0 ∙ append-nil done in
    members_view-pairs c.loop-place.values.entries
    ∙ ap members_from (c.loop-place.invariant.2 ∙ ap (λ es. sorted_by key_cmp (named es)) (sym all))

pub returns-clause-json : goal.returns-clause-json
returns-clause-json c = end c

pub returns-clause-reads_back : goal.returns-clause-reads_back
returns-clause-reads_back c =
    let u = c.args.self.now in
    let done = c.loop-place.invariant.0 in
    let held : IsUpdate u = subst IsUpdate c.self.view_is c.self.invariant in
    let all : u.places ≡ done = c.loop-place.invariant.1 ∙ ap (λ es. done ++ es) c.in-None.ensures.steps.0 ∙ append-nil done in
    ap (below_read u.path) (end c)
    ∙ values_read u.path u.places held.in_order held.apart held.few held.fit (subst (AllByRecursion DraftReads) (sym all) c.loop-place.invariant.3)

pub loop-place-init : goal.loop-place-init
loop-place-init c = (
  [],
  sym (c.into_iter-place-iterator.ensures.into_iter_gives ∙ c.iter-place-items.ensures.rest ∙ ap (λ u. u.places) c.self.view_is),
  ap pairs c.new-values.ensures.empty,
  tt,
)
