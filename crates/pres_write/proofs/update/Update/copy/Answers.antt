use Rattle.std.proofs.Common.{◌≡◌, ◌∷◌, [], ◌++◌, append_assoc, append-nil, sym, ap, subst, ◌∙◌}
use Rattle.std.specs.BTreeMap.{insert_entry}
use Rattle.std.specs.List.Sorted.{IsStrictlySortedBy}
use Rattle.std.specs.Map.{keys_of}
use Rattle.pres_tree.specs.Falls.{path_total, path_same}
use Rattle.pres_tree.specs.Paths.{Path, path_cmp}
use Rattle.pres_tree.specs.Rows.{Rows}
use Rattle.pres_write.specs.declared.draft.DraftLeaf.{DraftLeaf}
use Rattle.pres_write.specs.Updates.{IsUpdate, Places, PlacesBelow}
use Rattle.pres_write.proofs.Ordered.{insert_last}
use Rattle.pres_write.proofs.update.Update.copy.Goals as goal
use Rattle.pres_write.proofs.update.Update.copy.Goals.{In_ok-copy-2}

pub loop-place-preserved : goal.loop-place-preserved
loop-place-preserved c =
    let l = c.loop-place in
    let done = l.invariant.0 in
    let e : Path × Rows DraftLeaf = (c.in-Some.place.now, c.in-Some.draft.now) in
    let left = c.next.new.self in
    let all : c.args.self.now.places ≡ done ++ e ∷ left = l.invariant.1 ∙ ap (λ es. done ++ es) c.in-Some.ensures.steps in
    let order = subst (λ es. IsStrictlySortedBy path_cmp (keys_of es)) all (subst (λ u. IsStrictlySortedBy path_cmp (keys_of u.places)) c.self.view_is c.self.invariant.in_order) in (
      done ++ e ∷ [],
      all ∙ sym (append_assoc done (e ∷ []) left),
      c.in_ok-insert.ensures.entries
          ∙ (λ i. insert_entry path_cmp (l.invariant.2 i) (c.in_ok-place.ensures i) (c.in_ok-copy.ensures i))
          ∙ insert_last path_cmp path_same path_total done e left order,
      c.in_ok-insert.ensures.ordered,
    )

pub loop-place-init : goal.loop-place-init
loop-place-init c = (
  [],
  sym (c.into_iter-place-iterator.ensures.into_iter_gives ∙ c.iter-place-items.ensures.rest ∙ ap (λ u. u.places) c.self.view_is),
  c.new-places.ensures.empty,
  c.new-places.ensures.ordered,
)

joined : (u : PlacesBelow) (p : Path) (places : Places) → p ≡ u.path → places ≡ u.places → record { path = p; places = places } ≡ u
joined u p places path is = λ i. record { path = path i; places = is i }

-- the copy is the update
made : (c : In_ok-copy-2) → record { path = c.in_ok-copy-2.field-0; places = c.loop-place.places.entries } ≡ c.args.self.now
made c =
    let done = c.loop-place.invariant.0 in
    let all : c.args.self.now.places ≡ done = c.loop-place.invariant.1 ∙ ap (λ es. done ++ es) c.in-None.ensures.steps.0 ∙ append-nil done in
    joined c.args.self.now c.in_ok-copy-2.field-0 c.loop-place.places.entries (c.in_ok-copy-2.ensures ∙ ap (λ u. u.path) c.self.view_is) (c.loop-place.invariant.2 ∙ sym all)

pub invariant_of-result : goal.invariant_of-result
invariant_of-result c = subst IsUpdate (sym (made c)) (subst IsUpdate c.self.view_is c.self.invariant)

pub returns : goal.returns
returns c = made c
