use Rattle.std.proofs.Common.{◌∙◌, ap, sym, subst, arith}
use Rattle.std.specs.List.Sorted.{IsStrictlySortedBy}
use Rattle.std.specs.Map.{keys_of}
use Rattle.pres_tree.specs.Paths.{path_cmp}
use Rattle.pres_plan.specs.Places.{Spots, spot_at, place_of}
use Rattle.pres_plan.proofs.Searches.{within, found_spot, no_spot}
use Rattle.pres_plan.proofs.places.Places.get.Goals as goal

pub index-requires : goal.index-requires
index-requires c = omega (arith, within c.args.path.now c.self.inside.list.items c.in-Ok.at (ap (place_of c.args.path.now) c.self.view_is ∙ sym c.place.ensures ∙ c.in-Ok.is), c.self.inside.list.ok.0)

pub returns-in-Ok : goal.returns-in-Ok
returns-in-Ok c = found_spot c.args.path.now c.self.inside.list.items c.in-Ok.at (ap (place_of c.args.path.now) c.self.view_is ∙ sym c.place.ensures ∙ c.in-Ok.is) c.index.result.now c.index.ensures ∙ ap (λ (es : Spots). spot_at c.args.path.now es) c.self.view_is

pub returns-in-Err : goal.returns-in-Err
returns-in-Err c =
    no_spot c.args.path.now c.args.self.now c.in-Err.field-0 (subst (λ (es : Spots). IsStrictlySortedBy path_cmp (keys_of es)) c.self.view_is c.self.invariant) (sym c.place.ensures ∙ c.in-Err.is)
