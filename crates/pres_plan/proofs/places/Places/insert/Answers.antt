use Rattle.std.proofs.Common.{◌∙◌, Some, ap, sym, subst, arith}
use Rattle.std.specs.List.{slice_set}
use Rattle.std.specs.List.Sorted.{IsStrictlySortedBy}
use Rattle.std.specs.Map.{keys_of}
use Rattle.pres_tree.specs.Paths.{path_cmp}
use Rattle.pres_plan.specs.Places.{Spots, place_of, Sets}
use Rattle.pres_plan.proofs.Searches.{within, up_to, sets, puts}
use Rattle.pres_plan.proofs.places.Places.insert.Goals as goal

pub index_mut-entry-requires : goal.index_mut-entry-requires
index_mut-entry-requires c = omega (arith, within c.args.path c.self.inside.list.items c.in-Ok.at (ap (place_of c.args.path) c.self.view_is ∙ sym c.place.ensures ∙ c.in-Ok.is), c.self.inside.list.ok.0)

pub invariant_of-self : goal.invariant_of-self
invariant_of-self c =
    let stood = ap (place_of c.args.path) c.self.view_is ∙ sym c.place.ensures ∙ c.in-Ok.is in
    (sets c.args.path c.self.inside.list.items c.in-Ok.at c.self.invariant stood c.index_mut-entry.result.now c.index_mut-entry.ensures.value c.args.spot).1

pub insert-requires : goal.insert-requires
insert-requires c = omega (arith, up_to c.args.path c.self.inside.list.items c.in-Err.at (ap (place_of c.args.path) c.self.view_is ∙ sym c.place.ensures ∙ c.in-Err.is), c.self.inside.list.ok.0)

pub invariant_of-self-in-Continue-1 : goal.invariant_of-self-in-Continue-1
invariant_of-self-in-Continue-1 c =
    let missed = ap (place_of c.args.path) c.self.view_is ∙ sym c.place.ensures ∙ c.in-Err.is in
    subst (λ (es : Spots). IsStrictlySortedBy path_cmp (keys_of es)) (sym c.in_ok-insert-in-Err.ensures.items) (puts c.args.path c.self.inside.list.items c.in-Err.at c.self.invariant missed c.args.spot).1

pub returns-in-Ok-clause-ok : goal.returns-in-Ok-clause-ok
returns-in-Ok-clause-ok c =
    let stood = ap (place_of c.args.path) c.self.view_is ∙ sym c.place.ensures ∙ c.in-Ok.is in
    subst (λ (es : Spots). Sets c.args.path (Some c.args.spot) es (slice_set c.self.inside.list.items c.in-Ok.at (c.index_mut-entry.result.now.0, c.args.spot))) c.self.view_is
    (sets c.args.path c.self.inside.list.items c.in-Ok.at c.self.invariant stood c.index_mut-entry.result.now c.index_mut-entry.ensures.value c.args.spot).0

pub returns-in_ok-insert-in-Err-clause-ok : goal.returns-in_ok-insert-in-Err-clause-ok
returns-in_ok-insert-in-Err-clause-ok c =
    let missed = ap (place_of c.args.path) c.self.view_is ∙ sym c.place.ensures ∙ c.in-Err.is in
    subst (λ (es : Spots). Sets c.args.path (Some c.args.spot) es c.insert.new.self.items) c.self.view_is
    (subst (λ (es : Spots). Sets c.args.path (Some c.args.spot) c.self.inside.list.items es) (sym c.in_ok-insert-in-Err.ensures.items)
    (puts c.args.path c.self.inside.list.items c.in-Err.at c.self.invariant missed c.args.spot).0)
