use Rattle.std.proofs.Common.{◌≡◌, ◌∷◌, [], ◌++◌, List, false, map, append_assoc, append-nil, sym, ap, subst, ◌∙◌}
use Rattle.std.specs.Map.{keys_of}
use Rattle.pres_tree.specs.Paths.{Path, overlap}
use Rattle.pres_tree.specs.Rows.{Rows}
use Rattle.pres_write.specs.declared.basic.Basic.{Basic}
use Rattle.pres_write.specs.declared.draft.DraftLeaf.{DraftLeaf}
use Rattle.pres_write.specs.Settling.{settled_write}
use Rattle.pres_write.specs.Updates.{update_writes}
use Rattle.pres_write.proofs.Overlaps.{overlap-joined, paths_of_writes, writes_more}
use Rattle.pres_write.proofs.update.Update.into_writes.Goals as goal
use Rattle.std.proofs.Common.{arith}
use Rattle.std.proofs.lemmas.Grind.{common_steps}

pub loop-place-preserved : goal.loop-place-preserved
loop-place-preserved c =
    let l = c.loop-place in
    let done = l.invariant.2 in
    let e : Path × Rows DraftLeaf = (c.in-Some.place, c.in-Some.draft) in
    let left = c.next.new.self in
    let p = c.args.self.path in
    let all : c.args.self.places ≡ done ++ e ∷ left = l.invariant.3 ∙ ap (λ es. done ++ es) c.in-Some.ensures.steps in
    let is : c.in_ok-moved_write.field-0 ≡ settled_write c.args.tree.now c.args.moment (p ++ e.0, e.1) =
    c.in_ok-moved_write.ensures ∙ ap (λ q. settled_write c.args.tree.now c.args.moment (q, e.1)) (c.in_ok-whole.ensures ∙ ap (λ u. u.path ++ e.0) c.self.view_is) in (
      tt,
      tt,
      done ++ e ∷ [],
      all ∙ sym (append_assoc done (e ∷ []) left),
      c.in_ok-push.ensures.items
          ∙ (λ i. l.invariant.4 i ++ is i ∷ [])
          ∙ sym (writes_more p c.args.tree.now c.args.moment done e),
    )

pub returns-clause-apart : goal.returns-clause-apart
returns-clause-apart c =
    let p = c.args.self.path in
    let places = c.args.self.places in
    let done = c.loop-place.invariant.2 in
    let all : places ≡ done = c.loop-place.invariant.3 ∙ ap (λ es. done ++ es) c.in-None.ensures.steps.0 ∙ append-nil done in
    let made : c.of.result ≡ update_writes c.args.tree.now c.args.moment c.args.self =
    c.of.ensures ∙ c.loop-place.invariant.4 ∙ ap (λ es. update_writes c.args.tree.now c.args.moment (record { path = p; places = es })) (sym all) in
    ap (λ (ws : List Basic). overlap (map (λ b. b.path) ws)) made
    ∙ ap overlap (paths_of_writes p c.args.tree.now c.args.moment places)
    ∙ overlap-joined p (keys_of places)
    ∙ subst (λ u. overlap (keys_of u.places) ≡ false) c.self.view_is c.self.invariant.apart

pub loop-place-init : goal.loop-place-init
loop-place-init c = grind (arith, common_steps)
