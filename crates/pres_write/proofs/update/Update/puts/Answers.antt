use Rattle.std.proofs.Common.{◌≡◌, ◌∷◌, [], ◌++◌, All, append_assoc, append-nil, sym, ap, subst, ◌∙◌}
use Rattle.pres_tree.specs.Paths.{Path, path_cmp}
use Rattle.pres_tree.specs.Rows.{Rows, Fits}
use Rattle.pres_write.specs.declared.draft.DraftLeaf.{DraftLeaf}
use Rattle.pres_write.specs.Unconditionals.{ArePuts, puts_below}
use Rattle.pres_write.specs.Updates.{IsUpdate, FitsBelow}
use Rattle.pres_write.proofs.Ordered.{each-middle}
use Rattle.pres_write.proofs.Putting.{are_puts, puts_more}
use Rattle.pres_write.proofs.update.Update.puts.Goals as goal
use Rattle.pres_write.proofs.update.Update.puts.Goals.{In-Some}

pub loop-place-preserved : goal.loop-place-preserved
loop-place-preserved c =
    let l = c.loop-place in
    let done = l.invariant.0 in
    let e : Path × Rows DraftLeaf = (c.in-Some.place.now, c.in-Some.draft.now) in
    let left = c.next.new.self in
    let p = c.args.self.now.path in
    let all : c.args.self.now.places ≡ done ++ e ∷ left = l.invariant.1 ∙ ap (λ es. done ++ es) c.in-Some.ensures.steps in
    let path : c.in_ok-path.path ≡ p ++ e.0 = c.in_ok-path.ensures ∙ ap (λ u. u.path ++ e.0) c.self.view_is in
    let is : c.fitting.result ≡ (p ++ e.0, e.1) = c.fitting.ensures ∙ (λ i. (path i, c.in_ok-draft.ensures i)) in (
      done ++ e ∷ [],
      all ∙ sym (append_assoc done (e ∷ []) left),
      c.in_ok-push.ensures.items
          ∙ (λ i. l.invariant.2 i ++ is i ∷ [])
          ∙ sym (puts_more p done e),
    )

pub of-requires : goal.of-requires
of-requires c =
    let p = c.args.self.now.path in
    let places = c.args.self.now.places in
    let done = c.loop-place.invariant.0 in
    let all : places ≡ done = c.loop-place.invariant.1 ∙ ap (λ es. done ++ es) c.in-None.ensures.steps.0 ∙ append-nil done in
    let is : c.loop-place.placements.items ≡ puts_below c.args.self.now = c.loop-place.invariant.2 ∙ ap (λ es. puts_below (record { path = p; places = es })) (sym all) in
    subst ArePuts (sym is) (are_puts c.args.self.now (subst IsUpdate c.self.view_is c.self.invariant))

pub loop-place-init : goal.loop-place-init
loop-place-init c = (
  [],
  sym (c.into_iter-place-iterator.ensures.into_iter_gives ∙ c.iter-place-items.ensures.rest ∙ ap (λ u. u.places) c.self.view_is),
  c.new-placements.ensures.items,
)

-- the draft fits at its place below the path
here : (c : In-Some) → FitsBelow c.self.inside.path (c.in-Some.place.now, c.in-Some.draft.now)
here c =
    let done = c.loop-place.invariant.0 in
    let e : Path × Rows DraftLeaf = (c.in-Some.place.now, c.in-Some.draft.now) in
    let all : c.self.inside.places.entries ≡ done ++ e ∷ c.next.new.self = ap (λ u. u.places) c.self.view_is ∙ c.loop-place.invariant.1 ∙ ap (λ es. done ++ es) c.in-Some.ensures.steps in
    each-middle path_cmp (FitsBelow c.self.inside.path) done e c.next.new.self (subst (All (FitsBelow c.self.inside.path)) all c.self.invariant.fit)

pub whole_path-requires : goal.whole_path-requires
whole_path-requires c = (here c).0

pub fitting-requires : goal.fitting-requires
fitting-requires c =
    let p = c.self.inside.path ++ c.in-Some.place.now in
    let is : (c.in_ok-path.path, c.in_ok-draft.draft) ≡ (p, c.in-Some.draft.now) = λ i. (c.in_ok-path.ensures i, c.in_ok-draft.ensures i) in
    subst (λ (q : Path × Rows DraftLeaf). Fits q.0 q.1) (sym is) (here (goal.at.fitting-requires c).In-Some).1

pub returns : goal.returns
returns c =
    let p = c.args.self.now.path in
    let done = c.loop-place.invariant.0 in
    let all : c.args.self.now.places ≡ done = c.loop-place.invariant.1 ∙ ap (λ es. done ++ es) c.in-None.ensures.steps.0 ∙ append-nil done in
    c.of.ensures ∙ c.loop-place.invariant.2 ∙ ap (λ es. puts_below (record { path = p; places = es })) (sym all)
