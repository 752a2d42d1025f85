use Rattle.std.proofs.Common.{◌≡◌, ◌∙◌, ℕ, Option, Some, None, IfSome, cond, ap, sym, subst, arith}
use Rattle.std.specs.List.{slice_set}
use Rattle.std.specs.List.Sorted.{IsStrictlySortedBy}
use Rattle.std.specs.Map.{keys_of}
use Rattle.pres_tree.specs.Paths.{Path, path_cmp, same_path}
use Rattle.pres_plan.specs.declared.places.Spot.{Spot}
use Rattle.pres_plan.specs.Places.{Spots, spot_at, place_of, Sets}
use Rattle.pres_plan.specs.Standing.{numbers_of, without, IsTop, AreTops}
use Rattle.pres_plan.proofs.Searches.{within, found_spot, no_spot, sets, takes}
use Rattle.pres_plan.proofs.Spots.{forgets, forgets_none, tops_set}
use Rattle.pres_plan.proofs.places.Places.forget.Goals.{After-self-1, After-drop}
use Rattle.pres_plan.proofs.places.Places.forget.Goals as goal

pub returns-in_default-clause-told : goal.returns-in_default-clause-told
returns-in_default-clause-told c =
    forgets_none c.args.number c.args.path.now c.args.self.now
    (sym (no_spot c.args.path.now c.args.self.now c.in_default.field-0 (subst (λ (es : Spots). IsStrictlySortedBy path_cmp (keys_of es)) c.self.view_is c.self.invariant) (sym c.place.ensures ∙ c.in_default.is)))

pub index-requires : goal.index-requires
index-requires c = omega (arith, within c.args.path.now c.self.inside.list.items c.in-Ok.at (ap (place_of c.args.path.now) c.self.view_is ∙ sym c.place.ensures ∙ c.in-Ok.is), c.self.inside.list.ok.0)

pub index_mut-entry-requires : goal.index_mut-entry-requires
index_mut-entry-requires c = omega (arith, within c.args.path.now c.self.inside.list.items c.in-Ok.at (ap (place_of c.args.path.now) c.self.view_is ∙ sym c.place.ensures ∙ c.in-Ok.is), c.self.inside.list.ok.0)

pub remove-requires : goal.remove-requires
remove-requires c = omega (arith, within c.args.path.now c.self.inside.list.items c.in-Ok.at (ap (place_of c.args.path.now) c.self.view_is ∙ sym c.place.ensures ∙ c.in-Ok.is), c.self.inside.list.ok.0)

-- the spot stays without the number
kept : (c : After-self-1) → Sets c.args.path.now (Some c.in-Some.left) c.self.inside.list.items (slice_set c.self.inside.list.items c.in-Ok.at (c.index_mut-entry.result.now.0, c.in-Some.left))
    × IsStrictlySortedBy path_cmp (keys_of (slice_set c.self.inside.list.items c.in-Ok.at (c.index_mut-entry.result.now.0, c.in-Some.left)))
kept c =
    sets c.args.path.now c.self.inside.list.items c.in-Ok.at c.self.invariant (ap (place_of c.args.path.now) c.self.view_is ∙ sym c.place.ensures ∙ c.in-Ok.is)
    c.index_mut-entry.result.now c.index_mut-entry.ensures.value c.in-Some.left

-- or it goes
gone : (c : After-drop) → Sets c.args.path.now None c.self.inside.list.items c.remove.new.self.items × IsStrictlySortedBy path_cmp (keys_of c.remove.new.self.items)
gone c =
    subst (λ (es : Spots). Sets c.args.path.now None c.self.inside.list.items es × IsStrictlySortedBy path_cmp (keys_of es)) (sym c.remove.ensures.items)
    (takes c.args.path.now c.self.inside.list.items c.in-Ok.at c.self.invariant (ap (place_of c.args.path.now) c.self.view_is ∙ sym c.place.ensures ∙ c.in-Ok.is))

pub invariant_of-self : goal.invariant_of-self
invariant_of-self c = (kept c).1

pub invariant_of-self-in-None : goal.invariant_of-self-in-None
invariant_of-self-in-None c = (gone c).1

pub returns-in-Some-clause-told : goal.returns-in-Some-clause-told
returns-in-Some-clause-told c =
    let p = c.args.path.now in
    let es = c.self.inside.list.items in
    let stood = found_spot p es c.in-Ok.at (ap (place_of p) c.self.view_is ∙ sym c.place.ensures ∙ c.in-Ok.is) c.index.result.now c.index.ensures in
    subst (λ (old : Spots). (q : Path) → numbers_of (spot_at q (slice_set es c.in-Ok.at (c.index_mut-entry.result.now.0, c.in-Some.left))) ≡ cond (same_path q p) (without c.args.number (numbers_of (spot_at q old))) (numbers_of (spot_at q old))) c.self.view_is
    (forgets c.args.number p (Some c.in-Some.left) es _ (kept c).0 (c.in-Some.ensures.numbers ∙ ap (λ o. without c.args.number (numbers_of o)) stood))

pub returns-in-Some-clause-tops : goal.returns-in-Some-clause-tops
returns-in-Some-clause-tops c = λ rows tops.
    let p = c.args.path.now in
    let es = c.self.inside.list.items in
    let before = subst (λ (l : Spots). AreTops rows l) (sym c.self.view_is) tops in
    let stood = found_spot p es c.in-Ok.at (ap (place_of p) c.self.view_is ∙ sym c.place.ensures ∙ c.in-Ok.is) c.index.result.now c.index.ensures in
    tops_set p (Some c.in-Some.left) es _ (kept c).0 rows
    (subst (λ (t : ℕ). IsTop rows p t) (sym c.in-Some.ensures.top)
    (subst (λ (o : Option Spot). IfSome o (λ s. IsTop rows p s.top)) (sym stood) (before p))) before

pub returns-in-None-clause-told : goal.returns-in-None-clause-told
returns-in-None-clause-told c =
    let p = c.args.path.now in
    let es = c.self.inside.list.items in
    let stood = found_spot p es c.in-Ok.at (ap (place_of p) c.self.view_is ∙ sym c.place.ensures ∙ c.in-Ok.is) c.index.result.now c.index.ensures in
    subst (λ (old : Spots). (q : Path) → numbers_of (spot_at q c.remove.new.self.items) ≡ cond (same_path q p) (without c.args.number (numbers_of (spot_at q old))) (numbers_of (spot_at q old))) c.self.view_is
    (forgets c.args.number p None es _ (gone c).0 (c.in-None.ensures.numbers ∙ ap (λ o. without c.args.number (numbers_of o)) stood))

pub returns-in-None-clause-tops : goal.returns-in-None-clause-tops
returns-in-None-clause-tops c = λ rows tops.
    tops_set c.args.path.now None c.self.inside.list.items _ (gone c).0 rows tt (subst (λ (l : Spots). AreTops rows l) (sym c.self.view_is) tops)
