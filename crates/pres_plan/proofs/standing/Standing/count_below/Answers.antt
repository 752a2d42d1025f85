use Rattle.std.proofs.Common.{sym, ◌∙◌, ap, filter, length}
use Rattle.std.proofs.lemmas.List.{length-map}
use Rattle.pres_tree.specs.Paths.{Path, is_prefix}
use Rattle.pres_plan.specs.declared.places.Spot.{Spot}
use Rattle.pres_plan.proofs.Covered.{count_is}
use Rattle.pres_plan.proofs.standing.Standing.count_below.Goals as goal

pub returns : goal.returns
returns c =
    let p = c.args.path.now in
    ap length c.below.ensures.entries
    ∙ sym (length-map (filter (λ e. is_prefix p e.0) c.args.self.now.places) (λ (e : Path × Spot). e.1.row))
    ∙ count_is p c.args.self.now.rows c.args.self.now.places c.below.ensures.ordered c.requires
