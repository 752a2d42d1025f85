use Rattle.std.proofs.Common.{◌≡◌, ◌∷◌, [], ◌++◌, List, All, false, map, append_assoc, append-nil, sym, ap, subst, ◌∙◌}
use Rattle.std.specs.Map.{keys_of}
use Rattle.pres_tree.specs.Paths.{Path, path_cmp, overlap}
use Rattle.pres_tree.specs.Rows.{Rows, Fits}
use Rattle.pres_write.specs.declared.basic.Basic.{Basic}
use Rattle.pres_write.specs.declared.draft.DraftLeaf.{DraftLeaf}
use Rattle.pres_write.specs.Settling.{settled_write}
use Rattle.pres_write.specs.Updates.{FitsBelow, update_writes}
use Rattle.pres_write.proofs.Overlaps.{overlap-joined, paths_of_writes, writes_more}
use Rattle.pres_write.proofs.Ordered.{each-middle}
use Rattle.pres_write.proofs.update.Update.writes.Goals as goal
use Rattle.pres_write.proofs.update.Update.writes.Goals.{In-Some, After-of}

pub loop-place-preserved : goal.loop-place-preserved
loop-place-preserved c =
    let l = c.loop-place in
    let done = l.invariant.0 in
    let e : Path × Rows DraftLeaf = (c.in-Some.place.now, c.in-Some.draft.now) in
    let left = c.next.new.self in
    let p = c.args.self.now.path in
    let all : c.args.self.now.places ≡ done ++ e ∷ left = l.invariant.1 ∙ ap (λ es. done ++ es) c.in-Some.ensures.steps in
    let made = c.in_ok-settled_write.field-0 in
    let is : made ≡ settled_write c.args.tree.now c.args.moment (p ++ e.0, e.1) = c.in_ok-settled_write.ensures ∙ ap (λ q. settled_write c.args.tree.now c.args.moment (q, e.1)) (c.in_ok-path.ensures ∙ ap (λ u. u.path ++ e.0) c.self.view_is) in (
      done ++ e ∷ [],
      all ∙ sym (append_assoc done (e ∷ []) left),
      c.in_ok-push.ensures.items
          ∙ (λ i. l.invariant.2 i ++ is i ∷ [])
          ∙ sym (writes_more p c.args.tree.now c.args.moment done e),
    )

-- all places are written
made : (c : After-of) → c.of.result ≡ update_writes c.args.tree.now c.args.moment c.args.self.now
made c =
    let done = c.loop-place.invariant.0 in
    let all : c.args.self.now.places ≡ done = c.loop-place.invariant.1 ∙ ap (λ es. done ++ es) c.in-None.ensures.steps.0 ∙ append-nil done in
    c.of.ensures ∙ c.loop-place.invariant.2 ∙ ap (λ es. update_writes c.args.tree.now c.args.moment (record { path = c.args.self.now.path; places = es })) (sym all)

pub returns-clause-writes : goal.returns-clause-writes
returns-clause-writes c = made c

pub returns-clause-apart : goal.returns-clause-apart
returns-clause-apart c =
    let p = c.args.self.now.path in
    let places = c.args.self.now.places in
    ap (λ (ws : List Basic). overlap (map (λ b. b.path) ws)) (made c)
    ∙ ap overlap (paths_of_writes p c.args.tree.now c.args.moment places)
    ∙ overlap-joined p (keys_of places)
    ∙ subst (λ u. overlap (keys_of u.places) ≡ false) c.self.view_is c.self.invariant.apart

pub loop-place-init : goal.loop-place-init
loop-place-init c = (
  [],
  sym (c.into_iter-place-iterator.ensures.into_iter_gives ∙ c.iter-place-items.ensures.rest ∙ ap (λ u. u.places) c.self.view_is),
  c.new-writes.ensures.items,
)

-- the draft fits at its place below the path
here : (c : In-Some) → FitsBelow c.self.inside.path (c.in-Some.place.now, c.in-Some.draft.now)
here c =
    let done = c.loop-place.invariant.0 in
    let e : Path × Rows DraftLeaf = (c.in-Some.place.now, c.in-Some.draft.now) in
    let all : c.self.inside.places.entries ≡ done ++ e ∷ c.next.new.self = ap (λ u. u.places) c.self.view_is ∙ c.loop-place.invariant.1 ∙ ap (λ es. done ++ es) c.in-Some.ensures.steps in
    each-middle path_cmp (FitsBelow c.self.inside.path) done e c.next.new.self (subst (All (FitsBelow c.self.inside.path)) all c.self.invariant.fit)

pub whole_path-requires : goal.whole_path-requires
whole_path-requires c = (here c).0

pub settled_write-requires : goal.settled_write-requires
settled_write-requires c = subst (λ q. Fits q c.in-Some.draft.now) (sym c.in_ok-path.ensures) (here (goal.at.settled_write-requires c).In-Some).1
