use Rattle.std.proofs.Common.{◌≡◌, ◌<◌, ◌∙◌, false, true≢false, Less, ap, sym, subst, length, is_lt}
use Rattle.std.specs.List.{slice_index_or}
use Rattle.std.specs.Option.{is_some}
use Rattle.std.proofs.lemmas.Bool.{ltb-true, lt-ltb}
use Rattle.pres_tree.specs.Paths.{Path, path_cmp}
use Rattle.pres_plan.specs.declared.places.Spot.{Spot}
use Rattle.pres_plan.specs.Places.{Spots}
use Rattle.pres_plan.proofs.Searches.{at_drop, same_item, stands_at, goes_at, equal_is, above_is}
use Rattle.pres_plan.proofs.places.Places.place.Goals as goal

pub returns-in-Some : goal.returns-in-Some
returns-in-Some c =
    let p = c.args.path.now in
    let i = c.count_before-at.result in
    let es = c.args.self.now in
    let is = c.deref.ensures.value ∙ c.self.view_is in
    let less = subst (λ (l : Spots). i < length l) is (ltb-true i (length c.deref.result.now) (sym c.in-Some.ensures.lookup.0)) in
    stands_at p es i c.in-Some.entry.now c.count_before-at.ensures.before less (c.in-Some.ensures.lookup.1 ∙ ap (λ (l : Spots). slice_index_or l i c.in-Some.entry.now) is)
    (equal_is p c.in-Some.entry.now.0 (sym c.if-eq.ensures))

pub returns-in_default : goal.returns-in_default
returns-in_default c =
    let p = c.args.path.now in
    let i = c.count_before-at.result in
    let es = c.args.self.now in
    let is = c.deref.ensures.value ∙ c.self.view_is in
    let entry = c.in-Some.ensures.lookup.1 ∙ ap (λ (l : Spots). slice_index_or l i c.in-Some.entry.now) is in
    goes_at p es i c.count_before-at.ensures.before c.count_before-at.ensures.bound
    (λ d less at. subst (λ (x : Path × Spot). path_cmp p x.0 ≡ Less) (sym (same_item es i d c.in-Some.entry.now less at entry))
    (above_is p c.in-Some.entry.now.0 (sym c.if-eq.ensures) (at_drop (λ (x : Path × Spot). is_lt (path_cmp x.0 p) ≡ false) es i c.in-Some.entry.now c.count_before-at.ensures.after less entry)))

pub returns-in_default-2 : goal.returns-in_default-2
returns-in_default-2 c =
    let i = c.count_before-at.result in
    let is = c.deref.ensures.value ∙ c.self.view_is in
    goes_at c.args.path.now c.args.self.now i c.count_before-at.ensures.before c.count_before-at.ensures.bound
    (λ d less at. absurd (true≢false (sym (lt-ltb i (length c.deref.result.now) (subst (λ (l : Spots). i < length l) (sym is) less)) ∙ sym c.get.ensures.lookup.0 ∙ ap is_some c.in_default.is)))
